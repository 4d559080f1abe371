-- The requests of a script come in order, so that their run is legal.
use Rattle.std.proofs.Common.{IsTrue, ◌≡◌, ℕ, ◌+◌, ◌≤◌, ◌&&◌, Bool, true, false, List, [], length, Option, Some, None, Ok, refl, sym, ◌∙◌, ap, subst, arith, is_none}
use Rattle.db_config.specs.declared.parts.ConfigParts.{ConfigParts}
use Rattle.live_run.specs.session_core.declared.line.Line.{Line}
use Rattle.live_run.specs.session_core.Worlds.{Each}
use Rattle.live_run.specs.session_core.InOrder.{Outage, disk_outages, in_turn, ComeInOrder, IsBelow}
use Rattle.live_run.proofs.of_session_core.Turns.{each_push, each_map}
use Rattle.db_config.specs.Valid.{is_valid}
use Rattle.live_run.specs.session_core.Steps.{start}
use Rattle.live_run.specs.edit_rules.Database.{empty_database}
use Rattle.live_run.specs.edit_rules.Effects.{IsLegal}
use Rattle.live_run.specs.edit_rules.declared.acts.Entry.{Entry}
use Rattle.emu_names.specs.declared.limits.TheConstants.{HISTORY_EDITS}
use Rattle.emu_names.specs.Count.{RoseBy}
use Rattle.db_config.specs.Made.{is_made}
use Rattle.live_run.proofs.of_edit_rules.Replay.{states_keep_rules}
use Rattle.live_run.proofs.of_session_core.Ordered.{in_turn_is_in_order}
use Rattle.live_run.specs.live_book.Histories.{Stands}
use Rattle.script_lines.specs.declared.faults.ReadLine.{ReadLine}
use Rattle.script_lines.specs.declared.faults.ReadLine.TheVariants as reads
use Rattle.script_lines.specs.Known.{Known}
use Rattle.script_runs.specs.Scripts.{AskedLine, Parsed, read_from, with_read, parse, earlier_of}
use Rattle.script_runs.specs.Bases.{Base, no_store, bare_store, store_of, wants_by, opening_by, config_by, IsBaseOf}
use Rattle.script_runs.specs.Runs.{Setting, setting_by, IsRunFrom, Runs, run_from, history_in}
use Rattle.script_runs.specs.Inner.Runs.{history_by}
use Rattle.script_runs.specs.Inner.Reached.{IsDone}
use Rattle.script_runs.proofs.ComeLemmas.{come_push, names_change, names_earlier, parse_keeps}

-- a configuration that was given keeps its rules
abbrev IsValidGiven : Option ConfigParts → Type 0
IsValidGiven None = Unit {0}
IsValidGiven (Some c) = IsTrue (is_valid c)

-- the requests that were read so far, over what a run begins with
record Ordered (base : Base) (p : Parsed) : Type 0 where
  come : ComeInOrder [] p.requests
  below : Each (IsBelow (p.number + 1)) p.requests
  wanted : p.wants ≡ is_none (config_by base p.config)
  begun : config_by base p.config ≡ None → p.requests ≡ []
  valid : IsValidGiven (config_by base p.config)

abbrev some_config : ConfigParts → Option ConfigParts
some_config c = Some c

abbrev no_config : Option ConfigParts
no_config = None

none_some : (c : ConfigParts) → no_config ≡ some_config c → ⊥
none_some c h = cc

-- where the store has no configuration, the script's is the run's
gives_own : (base : Base) (given : Option ConfigParts) (c : ConfigParts) → config_by base given ≡ None → config_by base (Some c) ≡ Some c
gives_own no_store given c h = refl
gives_own bare_store given c h = refl
gives_own (store_of own history) given c h = absurd (none_some own (sym h))

-- one more line
read_more : (base : Base) (p : Parsed) (config : Option ConfigParts) (read : ReadLine) → config_by base p.config ≡ config → Ordered base p → Known (p.number + 1) (is_none config) (earlier_of p.requests) read → Ordered base (with_read p read)
read_more base p None (reads.Config config) e o k = record {
  come = o.come;
  below = each_map (IsBelow (p.number + 1)) (IsBelow (p.number + 1 + 1)) (λ l h. omega arith) p.requests o.below;
  wanted = sym (ap (λ c. is_none c) (gives_own base p.config config e));
  begun = λ h. o.begun e;
  valid = subst (λ c. IsValidGiven c) (sym (gives_own base p.config config e)) k;
}
read_more base p None reads.Blank e o k = absurd k
read_more base p None (reads.Request l) e o k = absurd k
read_more base p (Some c) (reads.Config config) e o k = absurd k
read_more base p (Some c) reads.Blank e o k = record {
  come = o.come;
  below = each_map (IsBelow (p.number + 1)) (IsBelow (p.number + 1 + 1)) (λ l h. omega arith) p.requests o.below;
  wanted = o.wanted;
  begun = o.begun;
  valid = o.valid;
}
read_more base p (Some c) (reads.Request l) e o k = record {
  come = come_push [] p.requests l o.come (record {
    rises = each_map (IsBelow (p.number + 1)) (IsBelow l.line) (λ m h. let here : l.line ≡ p.number + 1 = k.number in omega arith) p.requests o.below;
    place = k.place;
    command = k.command;
    earlier = names_earlier p.requests l.session.0 l.request k.names;
    names = names_change p.requests l.session.0 l.request k.names;
  });
  below = each_push (IsBelow (p.number + 1 + 1)) p.requests l (each_map (IsBelow (p.number + 1)) (IsBelow (p.number + 1 + 1)) (λ m h. omega arith) p.requests o.below) (let here : l.line ≡ p.number + 1 = k.number in omega arith);
  wanted = o.wanted;
  begun = λ h. absurd (none_some c (sym h ∙ e));
  valid = o.valid;
}

ordered : (base : Base) (lines : List AskedLine) (p q : Parsed) → Ordered base p → parse p lines ≡ Ok q → Ordered base q
ordered base lines p q o h =
    parse_keeps (λ p. Ordered base p) (λ p read o k. read_more base p (config_by base p.config) read refl o (subst (λ (b : Bool). Known (p.number + 1) b (earlier_of p.requests) read) o.wanted k)) lines p q o h

-- What a run begins with is legal.

-- a store's configuration keeps its rules, and no entry of its history breaks one
abbrev pub IsLegalBase : Base → Type 0
IsLegalBase no_store = Unit {0}
IsLegalBase bare_store = Unit {0}
IsLegalBase (store_of config history) = IsTrue (is_valid config) × IsLegal config history × (length history ≤ HISTORY_EDITS)

both_right : (made valid : Bool) → (made && valid) ≡ true → valid ≡ true
both_right true valid h = h
both_right false valid h = absurd (cc)

legal_stands : (config : ConfigParts) (history : List Entry) (c : List ℕ) → Stands config history c → IsLegalBase (store_of config history)
legal_stands config history c s = (both_right (is_made config) (is_valid config) s.storable.head.1, s.storable.is_history.legal, s.storable.is_history.few)

pub legal_base : (store : Bool) (stored : Option (List ℕ)) (base : Base) → IsBaseOf store stored base → IsLegalBase base
legal_base false stored no_store h = tt
legal_base true stored bare_store h = tt
legal_base true stored (store_of config history) h = legal_stands config history h.0 h.2
legal_base false stored bare_store h = absurd h
legal_base false stored (store_of config history) h = absurd h
legal_base true stored no_store h = absurd h

ordered_none : (base : Base) → IsLegalBase base → Ordered base (read_from (wants_by base))
ordered_none no_store legal = record { come = tt; below = tt; wanted = refl; begun = λ e. refl; valid = tt }
ordered_none bare_store legal = record { come = tt; below = tt; wanted = refl; begun = λ e. refl; valid = tt }
ordered_none (store_of config history) legal = record { come = tt; below = tt; wanted = refl; begun = λ e. refl; valid = legal.0 }

-- no entry of the history before a run breaks a rule
abbrev IsLegalOpening : Option ConfigParts → List Entry → Type 0
IsLegalOpening None history = Unit {0}
IsLegalOpening (Some config) history = IsLegal config history

legal_opening : (base : Base) (given : Option ConfigParts) → IsLegalBase base → IsLegalOpening (config_by base given) (opening_by base)
legal_opening no_store None legal = tt
legal_opening no_store (Some config) legal = (empty_database config, refl)
legal_opening bare_store None legal = tt
legal_opening bare_store (Some config) legal = (empty_database config, refl)
legal_opening (store_of config history) given legal = legal.1

few_opening : (base : Base) → IsLegalBase base → length (opening_by base) ≤ HISTORY_EDITS
few_opening no_store legal = omega arith
few_opening bare_store legal = omega arith
few_opening (store_of config history) legal = legal.2

runs_of : (s : Setting) (config : Option ConfigParts) (requests : List Line) (outages : List Outage) → IsLegalOpening config s.opening → length s.opening ≤ HISTORY_EDITS → ComeInOrder [] requests → length outages ≡ length requests
    → (config ≡ None → requests ≡ []) → IsValidGiven config → RoseBy (disk_outages s.store outages) s.faults s.faults_after
    → Runs s config requests (run_from s.opening s.store config requests outages).0 (history_in s.opening (run_from s.opening s.store config requests outages).1)
runs_of s None requests outages legal few come each begun valid rose = (begun refl, refl)
runs_of s (Some config) requests outages legal few come each begun valid rose =
    let run : _ = in_turn_is_in_order config s.opening requests outages s.store s.faults s.faults_after legal few come each rose in
    record {
      valid = valid;
      come = come;
      legal = run.0;
      in_order = run.1;
      states = states_keep_rules config (in_turn s.store (start config s.opening) requests outages).1.entries valid run.0.legal;
    }

-- the run of the first lines of a script, wherever memory ran out or the disk failed
pub legal_run : (base : Base) → IsLegalBase base → (begin now : ℕ) (images : List ℕ → Type 0) (lines : List AskedLine) (p : Parsed) (outages : List Outage) → parse (read_from (wants_by base)) lines ≡ Ok p → IsDone base begin now images p outages → IsRunFrom (setting_by base p begin now) p outages (history_by base p outages)
legal_run base legal begin now images lines p outages h d =
    let o = ordered base lines (read_from (wants_by base)) p (ordered_none base legal) h in
    record {
      each = d.each;
      made = refl;
      run = runs_of (setting_by base p begin now) (config_by base p.config) p.requests outages (legal_opening base p.config legal) (few_opening base legal) o.come d.each o.begun o.valid d.rose;
    }
