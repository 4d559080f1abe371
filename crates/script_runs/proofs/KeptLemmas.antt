-- What a run leaves in its journal, one line more.
use Rattle.std.proofs.Common.{◌≡◌, ◌⊎◌, inl, inr, ℕ, ◌+◌, ◌≤◌, Bool, true, false, ◌&&◌, cond, List, [], ◌∷◌, ◌++◌, length, Option, Some, None, refl, sym, ◌∙◌, ap, subst, arith, length-append}
use Rattle.std.proofs.lemmas.List.Sums.{sum_by-append}
use Rattle.emu_names.specs.Count.{RoseBy}
use Rattle.db_config.specs.declared.parts.ConfigParts.{ConfigParts}
use Rattle.live_run.specs.edit_rules.declared.acts.Entry.{Entry}
use Rattle.live_run.specs.session_core.declared.line.Line.{Line}
use Rattle.live_run.specs.session_core.declared.line.Reply.{Reply}
use Rattle.live_run.specs.session_core.Steps.{State, start}
use Rattle.live_run.specs.session_core.InOrder.{Outage, is_disk_outage, disk_outages, in_turn, one_turn}
use Rattle.edit_journal.specs.declared.journal.Journal.{Journal}
use Rattle.live_run.specs.live_book.Kept.{KeepsIn, faults_in}
use Rattle.live_run.specs.live_book.Commits.{has_journal}
use Rattle.book_opening.specs.Inner.Opens.{IsEmpty}
use Rattle.session_run.specs.Orders.{IsDiskRefused}
use Rattle.session_run.specs.Inner.Orders.{LeftBehind, state_of}
use Rattle.script_lines.specs.declared.faults.ReadLine.TheVariants as reads
use Rattle.script_runs.specs.declared.running.Running.{Running}
use Rattle.script_runs.specs.Scripts.{Parsed, read_from, with_read}
use Rattle.script_runs.specs.Bases.{Base, is_stored, opening_by, config_by, counted, store_of, WasRefused, IfRefused}
use Rattle.script_runs.specs.Inner.Bases.{fresh_base}
use Rattle.script_runs.specs.Inner.Runs.{history_by, replies_by}
use Rattle.script_runs.specs.Inner.Taken.{TakesLine}
use Rattle.script_runs.specs.Inner.Reached.{IsAt, IsKept, KeepsStore, KeepsHistory}
use Rattle.script_runs.proofs.ReadLemmas.{rose_both}
use Rattle.script_runs.proofs.TextLemmas.{turns_push, begun_in, replies_begun, history_begun}

-- The edits that the disk refused.

refused_more : (store : Bool) (st : State) (lines : List Line) (outages : List Outage) (l : Line) (o : Outage) (next : Entry) → WasRefused store st lines outages next → WasRefused store st (lines ++ l ∷ []) (outages ++ o ∷ []) next
refused_more store st [] outages l o next h = absurd h
refused_more store st (k ∷ lines) [] l o next h = absurd h
refused_more store st (k ∷ lines) (p ∷ outages) l o next (inl h) = inl h
refused_more store st (k ∷ lines) (p ∷ outages) l o next (inr h) = inr (refused_more store (one_turn store st k p).1 lines outages l o next h)

pub refused_last : (store : Bool) (st : State) (lines : List Line) (outages : List Outage) (l : Line) (o : Outage) (next : Entry) → length outages ≡ length lines →
    IsDiskRefused (in_turn store st lines outages).1 l (one_turn store (in_turn store st lines outages).1 l o).0 next → WasRefused store st (lines ++ l ∷ []) (outages ++ o ∷ []) next
refused_last store st [] [] l o next same h = inl h
refused_last store st [] (p ∷ outages) l o next same h = absurd (omega arith)
refused_last store st (k ∷ lines) [] l o next same h = absurd (omega arith)
refused_last store st (k ∷ lines) (p ∷ outages) l o next same h =
    let rest : length outages ≡ length lines = omega arith in
    inr (refused_last store (one_turn store st k p).1 lines outages l o next rest h)

pub if_more : (store : Bool) (st : State) (lines : List Line) (outages : List Outage) (l : Line) (o : Outage) (lost : Option Entry) → IfRefused store st lines outages lost → IfRefused store st (lines ++ l ∷ []) (outages ++ o ∷ []) lost
if_more store st lines outages l o None h = tt
if_more store st lines outages l o (Some next) h = refused_more store st lines outages l o next h

-- the disk refused a line over the state where the run stands
pub refused_there : (store : Bool) (st mid after : State) (l : Line) (o : Outage) (reply : Reply) (next : Entry) → mid ≡ st → one_turn store st l o ≡ (reply, after) → IsDiskRefused mid l reply next → IsDiskRefused st l (one_turn store st l o).0 next
refused_there store st mid after l o reply next same turn h =
    subst (λ r. IsDiskRefused st l r next) (sym (ap (λ r. r.0) turn)) (subst (λ s. IsDiskRefused s l reply next) same h)

-- a line leaves in doubt nothing, or what was in doubt before, or its own entry
left_refused : (store : Bool) (st mid after : State) (lines : List Line) (outages : List Outage) (l : Line) (o : Outage) (reply : Reply) (lost left : Option Entry) → length outages ≡ length lines →
    mid ≡ (in_turn store st lines outages).1 → one_turn store (in_turn store st lines outages).1 l o ≡ (reply, after) → IfRefused store st lines outages lost →
    (left ≡ None) ⊎ (left ≡ lost) ⊎ ((next : Entry) × (left ≡ Some next) × IsDiskRefused mid l reply next) → IfRefused store st (lines ++ l ∷ []) (outages ++ o ∷ []) left
left_refused store st mid after lines outages l o reply lost left each same turn why (inl h) = subst (λ x. IfRefused store st (lines ++ l ∷ []) (outages ++ o ∷ []) x) (sym h) tt
left_refused store st mid after lines outages l o reply lost left each same turn why (inr (inl h)) = subst (λ x. IfRefused store st (lines ++ l ∷ []) (outages ++ o ∷ []) x) (sym h) (if_more store st lines outages l o lost why)
left_refused store st mid after lines outages l o reply lost left each same turn why (inr (inr h)) =
    subst (λ x. IfRefused store st (lines ++ l ∷ []) (outages ++ o ∷ []) x) (sym h.1)
    (refused_last store st lines outages l o h.0 each (refused_there store (in_turn store st lines outages).1 mid after l o reply h.0 same turn h.2))

-- The count of the disk.

outages_push : (store : Bool) (outages : List Outage) (o : Outage) → disk_outages store (outages ++ o ∷ []) ≡ disk_outages store outages + disk_outages store (o ∷ [])
outages_push store outages o = sum_by-append (λ (x : Outage). cond (store && is_disk_outage x) 1 0) outages (o ∷ [])

rose_push : (store own : Bool) (outages : List Outage) (o : Outage) (a b c : ℕ) → own ≡ store → RoseBy (disk_outages store outages) a b → RoseBy (disk_outages own (o ∷ [])) b c → RoseBy (disk_outages store (outages ++ o ∷ [])) a c
rose_push store own outages o a b c same h g =
    subst (λ k. RoseBy k a c) (sym (outages_push store outages o))
    (rose_both (disk_outages store outages) (disk_outages store (o ∷ [])) a b c h (subst (λ s. RoseBy (disk_outages s (o ∷ [])) b c) same g))

pub one_more : (os : List Outage) (ls : List Line) (o : Outage) (l : Line) → length os ≡ length ls → length (os ++ o ∷ []) ≡ length (ls ++ l ∷ [])
one_more os ls o l h = omega (arith, length-append os (o ∷ []), length-append ls (l ∷ []))

module _ {D : Type 0} (may_leave : D → List ℕ → Type 0) (faults : D → ℕ) (base : Base) (begin : ℕ) where
  -- a line of white space alone
  pub kept_blank : (old new : Option (Journal D)) (p : Parsed) (outages : List Outage) → new ≡ old → IsKept may_leave faults base begin old p outages → IsKept may_leave faults base begin new (with_read p reads.Blank) outages
  kept_blank old new p outages same d = record {
    each = d.each;
    stored = ap (λ j. has_journal j) same ∙ d.stored;
    rose = subst (λ j. RoseBy (disk_outages (is_stored base) outages) (counted base begin) (faults_in faults j)) (sym same) d.rose;
    kept = subst (λ j. KeepsStore may_leave (is_stored base) (config_by base p.config) (opening_by base) p.requests outages (history_by base p outages) j) (sym same) d.kept;
  }

  module _ (moment : D → ℕ) (left_since : D → ℕ → List ℕ → Type 0) (config : ConfigParts) (p : Parsed) (outages : List Outage) (running new : Running D) (l : Line) (reply : Reply)
      (t : TakesLine may_leave moment left_since faults running l reply new) (at : IsAt base running config p outages)
      (d : IsKept may_leave faults base begin running.core.book.journal p outages) where
    abbrev o : Outage
    o = t.answers.outage

    abbrev next : Parsed
    next = with_read p (reads.Request l)

    turn_there : (store own : Bool) (st mid : State) (new : State) → own ≡ store → mid ≡ st → one_turn own mid l o ≡ (reply, new) → one_turn store st l o ≡ (reply, new)
    turn_there store own st mid new s same h = rw (← s, ← same) h

    pub here : one_turn (is_stored base) (begun_in base config p.requests outages).1 l o ≡ (reply, state_of new.core)
    here = turn_there (is_stored base) (has_journal running.core.book.journal) (begun_in base config p.requests outages).1 (state_of running.core) (state_of new.core) d.stored at.state t.answers.turn

    pub pushed : begun_in base config (p.requests ++ l ∷ []) (outages ++ o ∷ []) ≡ ((begun_in base config p.requests outages).0 ++ reply ∷ [], state_of new.core)
    pushed =
        turns_push (is_stored base) (start config (opening_by base)) p.requests outages l o d.each
        ∙ ap (λ r. ((begun_in base config p.requests outages).0 ++ r.0 ∷ [], r.1)) here

    pub replies_are : replies_by base next (outages ++ o ∷ []) ≡ replies_by base p outages ++ reply ∷ []
    replies_are =
        replies_begun base next config (outages ++ o ∷ []) at.begun
        ∙ ap (λ r. r.0) pushed
        ∙ ap (λ rs. rs ++ reply ∷ []) (sym (replies_begun base p config outages at.begun))

    pub old_history : history_by base p outages ≡ running.core.book.history
    old_history = history_begun base p config outages at.begun ∙ sym (ap (λ (st : State). st.entries) at.state)

    pub new_history : history_by base next (outages ++ o ∷ []) ≡ new.core.book.history
    new_history = history_begun base next config (outages ++ o ∷ []) at.begun ∙ ap (λ r. r.1.entries) pushed

    new_config : new.core.book.config ≡ config
    new_config = t.answers.same.config ∙ at.book

    pub before : KeepsHistory may_leave (is_stored base) config (opening_by base) p.requests outages (history_by base p outages) running.core.book.journal
    before = subst (λ c. KeepsStore may_leave (is_stored base) c (opening_by base) p.requests outages (history_by base p outages) running.core.book.journal) at.begun d.kept

    pub before_keeps : KeepsIn may_leave running.core.book.config running.core.book.history before.lost running.core.book.journal
    before_keeps =
        subst (λ c. KeepsIn may_leave c running.core.book.history before.lost running.core.book.journal) (sym at.book)
        (subst (λ h. KeepsIn may_leave config h before.lost running.core.book.journal) old_history before.keeps)

    left : LeftBehind may_leave (state_of running.core) l reply before.lost new.core.book
    left = t.answers.kept before.lost before_keeps

    behind : KeepsHistory may_leave (is_stored base) config (opening_by base) next.requests (outages ++ o ∷ []) (history_by base next (outages ++ o ∷ [])) new.core.book.journal
    behind = record {
      lost = left.left;
      why = left_refused (is_stored base) (start config (opening_by base)) (state_of running.core) (state_of new.core) p.requests outages l o reply before.lost left.left d.each at.state here before.why left.which;
      keeps =
          subst (λ h. KeepsIn may_leave config h left.left new.core.book.journal) (sym new_history)
          (subst (λ c. KeepsIn may_leave c new.core.book.history left.left new.core.book.journal) new_config left.keeps);
    }

    pub kept_request : IsKept may_leave faults base begin new.core.book.journal (with_read p (reads.Request l)) (outages ++ o ∷ [])
    kept_request = record {
      each = one_more outages p.requests o l d.each;
      stored = t.answers.same.stored ∙ d.stored;
      rose = rose_push (is_stored base) (has_journal running.core.book.journal) outages o (counted base begin) (faults_in faults running.core.book.journal) (faults_in faults new.core.book.journal) d.stored d.rose t.answers.rose;
      kept = subst (λ c. KeepsStore may_leave (is_stored base) c (opening_by base) next.requests (outages ++ o ∷ []) (history_by base next (outages ++ o ∷ [])) new.core.book.journal) (sym at.begun) behind;
    }

-- Before the first request.

low_none : (a b : ℕ) → a ≤ b → RoseBy 0 a b
low_none a b h = omega arith

module _ {D : Type 0} (may_leave : D → List ℕ → Type 0) (faults : D → ℕ) (begin : ℕ) where
  -- nothing was read of a script that has to give its configuration
  pub kept_none : (stored : Bool) (journal : Option (Journal D)) → has_journal journal ≡ stored → counted (fresh_base stored) begin ≤ faults_in faults journal → IsEmpty may_leave journal → IsKept may_leave faults (fresh_base stored) begin journal (read_from true) []
  kept_none true journal is low empty = record { each = refl; stored = is; rose = low_none begin (faults_in faults journal) low; kept = empty }
  kept_none false journal is low empty = record { each = refl; stored = is; rose = low_none 0 (faults_in faults journal) low; kept = empty }

  -- the configuration was read
  pub kept_config : (stored : Bool) (config : ConfigParts) (journal : Option (Journal D)) → has_journal journal ≡ stored → counted (fresh_base stored) begin ≤ faults_in faults journal → KeepsIn may_leave config [] None journal →
      IsKept may_leave faults (fresh_base stored) begin journal (with_read (read_from true) (reads.Config config)) []
  kept_config true config journal is low keeps = record { each = refl; stored = is; rose = low_none begin (faults_in faults journal) low; kept = record { lost = None; why = tt; keeps = keeps } }
  kept_config false config journal is low keeps = record { each = refl; stored = is; rose = low_none 0 (faults_in faults journal) low; kept = record { lost = None; why = tt; keeps = keeps } }

  -- nothing was read of a script over a store with a configuration
  pub kept_store : (config : ConfigParts) (history : List Entry) (journal : Option (Journal D)) → has_journal journal ≡ true → begin ≤ faults_in faults journal → KeepsIn may_leave config history None journal → IsKept may_leave faults (store_of config history) begin journal (read_from false) []
  kept_store config history journal is low keeps = record { each = refl; stored = is; rose = low_none begin (faults_in faults journal) low; kept = record { lost = None; why = tt; keeps = keeps } }
