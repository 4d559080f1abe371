-- What a status says, from what was read, run and written.
use Rattle.std.proofs.Common.{◌≡◌, ◌⊎◌, inl, inr, ◌↔◌, ℕ, ◌+◌, ◌<◌, ◌≤◌, Bool, true, false, IsTrue, IfErr, List, [], ◌∷◌, length, take, drop, Option, Some, None, Result, Ok, Err, refl, sym, ◌∙◌, ap, subst, arith, nat_lt, append-nil}
use Rattle.std.proofs.lemmas.Bool.{ltb-true, ltb-false}
use Rattle.std.specs.Io.KnownBytes.{Appends, IsAtEnd}
use Rattle.std.proofs.KnownBytes.{Appends-nil}
use Rattle.std.proofs.Math.Seq.{take-length}
use Rattle.emu_names.specs.Count.{Rose}
use Rattle.emu_names.specs.declared.limits.TheConstants.{SCRIPT_BYTES}
use Rattle.emu_io.specs.Fronts.{Tells, WritesFront}
use Rattle.emu_io.specs.Inner.Fronts.{TakesFront, IsFrontOf}
use Rattle.db_config.specs.declared.parts.ConfigParts.{ConfigParts}
use Rattle.live_run.specs.session_core.InOrder.{Outage}
use Rattle.live_run.specs.live_book.Histories.{OfRead, IsBare}
use Rattle.program_output.specs.declared.ended.Ended.{Ended}
use Rattle.program_output.specs.declared.ended.Ended.TheVariants as ends
use Rattle.program_output.specs.declared.status.Status.{Status}
use Rattle.program_output.specs.declared.status.Status.TheVariants as statuses
use Rattle.script_runs.specs.Cuts.{cut}
use Rattle.script_runs.specs.Scripts.{AskedLine, AreRead, Parsed, read_from, parse, end_behind, end_from, if_over, passes_limit, is_past, lines_of, script_from, script_of, front_of, Stop, limit, at_fault}
use Rattle.script_runs.specs.Bases.{Base, no_store, bare_store, store_of, wants_by, is_stored, opening_by, config_by, IsBaseOf, EachOf, LeavesStore, AtEach}
use Rattle.script_runs.specs.Runs.{run_text, run_texts, setting_by, IsRunFrom, stop_text}
use Rattle.script_runs.specs.Inner.Runs.{history_by}
use Rattle.program_output.specs.Texts.{limit_text}
use Rattle.script_runs.specs.Says.{Call, Leaves, Moments, Gives, TooLong, ReadFailed, Says, EndedEarly, BrokeOff, DuringOpening, StaysBare}
use Rattle.script_runs.specs.Inner.Says.{call_of}
use Rattle.program_output.specs.Statuses.{WritesLast}
use Rattle.script_runs.specs.Inner.Reached.{IsDone, BrokeIn, RanScript, StoppedScript, IsTooLong, IsUnwritten, GaveConfig, RunsScript, AtMomentOf, DuringStart, IsRunDone}
use Rattle.program_output.specs.Inner.Written.{EndHasCause}
use Rattle.program_output.specs.Inner.Statuses.{Closes}
use Rattle.script_runs.proofs.ReadLemmas.{count_is, read_none, read_same}
use Rattle.emu_io.proofs.Fronts.{front_more, whole_more}
use Rattle.script_runs.proofs.LastLemmas.{all_to_last, cut_to_last, flat_run, last_as}
use Rattle.script_runs.proofs.DiskLemmas.{RunFailedBy}
use Rattle.script_runs.proofs.OrderedLemmas.{IsLegalBase, legal_base, legal_run}

-- The script that was read.

past_cases : (text : List ℕ) (past test : Bool) → nat_lt SCRIPT_BYTES (length text) ≡ test → IsTrue past ↔ (SCRIPT_BYTES < length text) → test ≡ past
past_cases text true true e h = refl
past_cases text true false e h = let low : length text ≤ SCRIPT_BYTES = ltb-false SCRIPT_BYTES (length text) e in let high : SCRIPT_BYTES < length text = h.0 refl in absurd (omega arith)
past_cases text false true e h = let bad : false ≡ true = h.1 (ltb-true SCRIPT_BYTES (length text) e) in cc
past_cases text false false e h = refl

-- what was read of a source: some text, which is the source's own where it tells it
pub record Script (left : Option (List ℕ)) (past : Bool) (bytes : List ℕ) : Type 0 where
  pub text : List ℕ
  pub told : Tells left text
  pub lines : lines_of text ≡ cut past bytes
  pub past_is : is_past text ≡ past

pub script_read : (left : Option (List ℕ)) (past : Bool) (bytes : List ℕ) → IsFrontOf left SCRIPT_BYTES bytes past → Script left past bytes
script_read left past bytes f =
    let same : is_past f.text ≡ past = past_cases f.text past (is_past f.text) refl f.longer in record {
      text = f.text;
      told = f.told;
      lines = rw (same, f.front) refl;
      past_is = same;
    }

pub script_is : (wants : Bool) (left : Option (List ℕ)) (past : Bool) (bytes : List ℕ) (s : Script left past bytes) (lines : List AskedLine) → script_of wants s.text lines ≡ script_from wants past (cut past bytes) lines
script_is wants left past bytes s lines =
    ap (λ all. script_from wants (is_past s.text) all lines) s.lines ∙ ap (λ over. script_from wants over (cut past bytes) lines) s.past_is

-- the lines that were read are the text's
pub read_whole : (left : Option (List ℕ)) (past : Bool) (bytes : List ℕ) (s : Script left past bytes) (lines : List AskedLine) (m n : ℕ) → AreRead lines (cut past bytes) m n → AreRead lines (lines_of s.text) m n
read_whole left past bytes s lines m n r = read_same lines (cut past bytes) (lines_of s.text) m n (sym s.lines) r

-- all lines of a script are its first ones
pub read_all : (lines : List AskedLine) (script : List (List ℕ)) (m n : ℕ) → AreRead lines script m n → AreRead lines (take (length lines) script) m n
read_all lines script m n r =
    read_same lines script (take (length lines) script) m n (sym (ap (λ k. take k script) (count_is lines script r.bytes) ∙ take-length script)) r

pub read_first : (left : Option (List ℕ)) (past : Bool) (bytes : List ℕ) (s : Script left past bytes) (lines : List AskedLine) (m n : ℕ) → AreRead lines (take (length lines) (cut past bytes)) m n → AreRead lines (take (length lines) (lines_of s.text)) m n
read_first left past bytes s lines m n r = read_same lines (take (length lines) (cut past bytes)) (take (length lines) (lines_of s.text)) m n (sym (ap (take (length lines)) s.lines)) r

-- a script that is run to its end does not pass its limit
abbrev some_ok : Parsed → Option (Result Parsed Stop)
some_ok p = Some (Ok p)

pub not_over : (over : Bool) (q : Parsed) → if_over over ≡ some_ok q → ⊥
not_over true q h = cc
not_over false q h = cc

not_behind : (rest : List (List ℕ)) (p q : Parsed) → end_behind true rest p ≡ some_ok q → ⊥
not_behind [] p q h = cc
not_behind (line ∷ rest) p q h = not_over (passes_limit (p.number + 1) line) q h

not_past : (rest : List (List ℕ)) (first : Result Parsed Stop) (q : Parsed) → end_from true rest first ≡ some_ok q → ⊥
not_past rest (Ok p) q h = not_behind rest p q h
not_past rest (Err stop) q h = cc

pub end_of : (left after : Option (List ℕ)) (bytes : List ℕ) (past : Bool) (rest : List (List ℕ)) (first : Result Parsed Stop) (q : Parsed) → TakesFront left after bytes past → end_from past rest first ≡ some_ok q → IsAtEnd after
end_of left after bytes true rest first q t h = absurd (not_past rest first q h)
end_of left after bytes false rest first q t h = t.1

-- A bare store, by what a run begins with.

bare_of : (store : Bool) (stored : Option (List ℕ)) (base : Base) → IsBaseOf store stored base → is_stored base ≡ true → wants_by base ≡ true → (store ≡ true) × OfRead stored IsBare
bare_of true stored bare_store h s w = (refl, h)
bare_of true stored (store_of config history) h s w = absurd (cc)
bare_of true stored no_store h s w = absurd h
bare_of false stored no_store h s w = absurd (cc)
bare_of false stored bare_store h s w = absurd h
bare_of false stored (store_of config history) h s w = absurd h

bare_left : (base : Base) (images : List ℕ → Type 0) → is_stored base ≡ true → wants_by base ≡ true → LeavesStore (is_stored base) (config_by base None) (opening_by base) [] [] (history_by base (read_from true) []) images → EachOf images IsBare
bare_left bare_store images s w h = h
bare_left no_store images s w h = absurd (cc)
bare_left (store_of config history) images s w h = absurd (cc)

opening_is : (base : Base) → history_by base (read_from (wants_by base)) [] ≡ opening_by base
opening_is no_store = refl
opening_is bare_store = refl
opening_is (store_of config history) = refl

unread_text : (base : Base) → run_text base (read_from (wants_by base)) [] ≡ []
unread_text no_store = refl
unread_text bare_store = refl
unread_text (store_of config history) = refl

-- the text that a source tells, or some text
abbrev some_text : Option (List ℕ) → List ℕ
some_text None = []
some_text (Some known) = known

told_some : (left : Option (List ℕ)) → Tells left (some_text left)
told_some None = tt
told_some (Some known) = refl

-- What a crash at some moment left of a bare store.
bare_since : (base : Base) (before since : List ℕ → Type 0) → is_stored base ≡ true → wants_by base ≡ true → AtEach (is_stored base) since (AtMomentOf before base (read_from true) []) → StaysBare before since
bare_since bare_store before since s w h = λ c left. bare_at c (h c left)
  where
    bare_at : (c : List ℕ) → AtMomentOf before bare_store (read_from true) [] c → before c ⊎ IsBare c
    bare_at c (inl was) = inl was
    bare_at c (inr (inl bare)) = inr bare
    bare_at c (inr (inr never)) = absurd never
bare_since no_store before since s w h = absurd (cc)
bare_since (store_of config history) before since s w h = absurd (cc)

-- or while its configuration was written
during_as : (call : Call) (before : List ℕ → Type 0) (config : ConfigParts) (c : List ℕ) → Gives call config → DuringStart before config c → DuringOpening call before c
during_as call before config c given (inl was) = inl was
during_as call before config c given (inr new) = inr (config, given, new)

-- the script could not be read
module _ (store : Bool) (stored left left_after : Option (List ℕ)) (r rs m n f fs : ℕ) (base : Base) (begins : IsBaseOf store stored base)
    (before_images images : List ℕ → Type 0) where
  pub says_unopened : (now : Option (List ℕ)) (w : ℕ) → Rose r rs → IsDone base f fs images (read_from (wants_by base)) [] → ReadFailed (call_of store stored left left_after now now r rs w w m n f fs) images
  says_unopened now w cause d = record {
    base = base;
    begins = begins;
    cause = cause;
    leaves = subst (λ h. Leaves base (read_from (wants_by base)) [] h images) (opening_is base) d.left;
    output = Appends-nil now;
  }

module _ (store : Bool) (stored left left_after : Option (List ℕ)) (r rs m n f fs : ℕ) (base : Base) (begins : IsBaseOf store stored base)
    (before_images since_images images : List ℕ → Type 0) where
  abbrev call : Option (List ℕ) → Option (List ℕ) → ℕ → ℕ → Call
  call before after w ws = call_of store stored left left_after before after r rs w ws m n f fs

  legal : IsLegalBase base
  legal = legal_base store stored base begins

  abbrev Done : Parsed → List Outage → Type 0
  Done = IsRunDone base f fs before_images since_images images

  abbrev Failed : ConfigParts → Type 0
  Failed = RunFailedBy f fs before_images since_images images

  abbrev Said : Status → Option (List ℕ) → Option (List ℕ) → ℕ → ℕ → Type 0
  Said status before after w ws = Says status (call before after w ws) before_images since_images images

  run_is : (lines : List AskedLine) (p : Parsed) (outages : List Outage) → parse (read_from (wants_by base)) lines ≡ Ok p → Done p outages → IsRunFrom (setting_by base p f fs) p outages (history_by base p outages)
  run_is lines p outages h d = legal_run base legal f fs images lines p outages h d.done

  -- before the first line
  pub says_unread : (now : Option (List ℕ)) (w ws : ℕ) → m ≤ n → Done (read_from (wants_by base)) [] → BrokeOff (call now now w ws) before_images since_images images
  says_unread now w ws later d = inl (record {
    has = record { base = base; begins = begins; text = some_text left; told = told_some left; lines = []; read = read_none m n later };
    done = 0;
    parsed = read_from (wants_by base);
    script = refl;
    outages = [];
    history = history_by base (read_from (wants_by base)) [];
    run = run_is [] (read_from (wants_by base)) [] refl d;
    leaves = d.done.left;
    moments = d.moments;
    last = [];
    line = inl refl;
    output = last_as now now (run_texts base (read_from (wants_by base)) []) (all_to_last now now (run_texts base (read_from (wants_by base)) []) [] (flat_run base (read_from (wants_by base)) [] ∙ unread_text base) (Appends-nil now));
  })

  pub says_read : (now : Option (List ℕ)) (w : ℕ) → Rose r rs → Done (read_from (wants_by base)) [] → Said statuses.Read now now w w
  unfolding says_unopened
  says_read now w cause d = (
    says_unopened store stored left left_after r rs m n f fs base begins before_images images now w cause d.done,
    subst (λ h. Moments base (read_from (wants_by base)) [] h before_images since_images) (opening_is base) d.moments,
  )

  module _ (past : Bool) (bytes : List ℕ) (front : IsFrontOf left SCRIPT_BYTES bytes past) where
    abbrev script : Script left past bytes
    script = script_read left past bytes front

    text_is : (lines : List AskedLine) → script_of (wants_by base) script.text lines ≡ script_from (wants_by base) past (cut past bytes) lines
    text_is lines = script_is (wants_by base) left past bytes script lines

    -- 0
    says_fine : (before after : Option (List ℕ)) (w ws : ℕ) → TakesFront left left_after bytes past → RanScript base Done past (cut past bytes) m n before after → Said statuses.Fine before after w ws
    says_fine before after w ws taken ran = record {
      has = record { base = base; begins = begins; text = script.text; told = script.told; lines = ran.asked; read = read_all ran.asked (lines_of script.text) m n (read_whole left past bytes script ran.asked m n ran.read) };
      at_end = end_of left left_after bytes past (drop (length ran.asked) (cut past bytes)) (parse (read_from (wants_by base)) ran.asked) ran.parsed taken ran.script;
      parsed = ran.parsed;
      script = text_is ran.asked ∙ ran.script;
      outages = ran.outages;
      history = history_by base ran.parsed ran.outages;
      run = run_is ran.asked ran.parsed ran.outages ran.whole ran.done;
      leaves = ran.done.done.left;
      moments = ran.done.moments;
      output = ran.output;
    }

    -- 3 and 9, where the last line was written
    ended_early : (stop : Stop) (before mid after : Option (List ℕ)) (w ws : ℕ) → StoppedScript base Done stop past (cut past bytes) m n before mid → Appends mid after (stop_text stop) → EndedEarly (call before after w ws) before_images since_images images stop
    ended_early stop before mid after w ws e last = record {
      has = record { base = base; begins = begins; text = script.text; told = script.told; lines = e.asked; read = read_first left past bytes script e.asked m n e.read };
      script = text_is e.asked ∙ e.script;
      outages = e.outages;
      history = history_by base (front_of (wants_by base) e.asked) e.outages;
      run = run_is (take e.done_lines e.asked) (front_of (wants_by base) e.asked) e.outages e.front e.done;
      leaves = e.done.done.left;
      moments = e.done.moments;
      output = whole_more before mid after (run_text base (front_of (wants_by base) e.asked) e.outages) (stop_text stop) e.output last;
    }

    -- 5 and 8, where a front of the last line was written
    broke_early : (stop : Stop) (before mid after : Option (List ℕ)) (w ws : ℕ) → StoppedScript base Done stop past (cut past bytes) m n before mid → WritesFront mid after (stop_text stop) → BrokeOff (call before after w ws) before_images since_images images
    broke_early stop before mid after w ws e last = inl (record {
      has = record { base = base; begins = begins; text = script.text; told = script.told; lines = e.asked; read = read_first left past bytes script e.asked m n e.read };
      done = e.done_lines;
      parsed = front_of (wants_by base) e.asked;
      script = e.front;
      outages = e.outages;
      history = history_by base (front_of (wants_by base) e.asked) e.outages;
      run = run_is (take e.done_lines e.asked) (front_of (wants_by base) e.asked) e.outages e.front e.done;
      leaves = e.done.done.left;
      moments = e.done.moments;
      last = stop_text stop ∷ [];
      line = inr (record { stop = stop; script = text_is e.asked ∙ e.script; front = refl; line = refl });
      output = cut_to_last before mid after (run_texts base (front_of (wants_by base) e.asked) e.outages) (run_text base (front_of (wants_by base) e.asked) e.outages) (stop_text stop) (flat_run base (front_of (wants_by base) e.asked) e.outages) e.output last;
    })

    -- 5 and 8, where the run broke off
    broke_off : (before after : Option (List ℕ)) (w ws : ℕ) → BrokeIn base Done (cut past bytes) m n before after → BrokeOff (call before after w ws) before_images since_images images
    broke_off before after w ws b = inl (record {
      has = record { base = base; begins = begins; text = script.text; told = script.told; lines = b.asked; read = read_first left past bytes script b.asked m n b.read };
      done = length b.asked;
      parsed = b.parsed;
      script = ap (parse (read_from (wants_by base))) (take-length b.asked) ∙ b.script;
      outages = b.outages;
      history = history_by base b.parsed b.outages;
      run = run_is b.asked b.parsed b.outages b.script b.done;
      leaves = b.done.done.left;
      moments = b.done.moments;
      last = [];
      line = inl refl;
      output = last_as before after (run_texts base b.parsed b.outages) b.output;
    })

    -- the first line gave the configuration of a bare store
    gives : (before mid after : Option (List ℕ)) (w ws : ℕ) (config : ConfigParts) → is_stored base ≡ true → wants_by base ≡ true → GaveConfig config (cut past bytes) m n before mid → Gives (call before after w ws) config
    gives before mid after w ws config s wants g = record {
      stored = (bare_of store stored base begins s wants).0;
      bare = (bare_of store stored base begins s wants).1;
      text = script.text;
      told = script.told;
      first = g.first;
      read = read_same (g.first ∷ []) (take 1 (cut past bytes)) (take 1 (lines_of script.text)) m n (sym (ap (take 1) script.lines)) g.read;
      given = g.given;
    }

    too_long : (Writes : List ℕ → Type 0) (before mid after : Option (List ℕ)) (w ws : ℕ) → IsTooLong base Done (cut past bytes) m n before mid → Writes limit_text → TooLong (call before after w ws) images Writes
    too_long Writes before mid after w ws t written = record {
      config = t.config;
      gives = gives before mid after w ws t.config t.stored t.wants t.gave;
      over = t.over;
      leaves = bare_left base images t.stored t.wants t.done.done.left;
      output = written;
    }

    stays_bare : (before mid : Option (List ℕ)) → IsTooLong base Done (cut past bytes) m n before mid → StaysBare before_images since_images
    stays_bare before mid t = bare_since base before_images since_images t.stored t.wants t.done.moments

    -- a last line behind a run that was stopped
    says_stopped : (status own : Status) (stop : Stop) (before mid after : Option (List ℕ)) (w mids ws : ℕ) → (EndedEarly (call before after w ws) before_images since_images images stop → Said own before after w ws) → StoppedScript base Done stop past (cut past bytes) m n before mid → w ≤ mids →
        WritesLast status own mid after mids ws (stop_text stop) → Said status before after w ws
    says_stopped status own stop before mid after w mids ws make e later (inl h) = subst (λ st. Said st before after w ws) (sym h.0) (make (ended_early stop before mid after w ws e h.1))
    says_stopped status own stop before mid after w mids ws make e later (inr (inl h)) = subst (λ st. Said st before after w ws) (sym h.0) (record { cause = omega (arith, h.1); output = broke_early stop before mid after w ws e h.2 })
    says_stopped status own stop before mid after w mids ws make e later (inr (inr h)) = subst (λ st. Said st before after w ws) (sym h.0) (broke_early stop before mid after w ws e h.1)

    -- the last line where the store has no room for the configuration
    says_long : (status : Status) (before mid after : Option (List ℕ)) (w mids ws : ℕ) → IsTooLong base Done (cut past bytes) m n before mid → w ≤ mids → WritesLast status statuses.Limit mid after mids ws limit_text → Said status before after w ws
    says_long status before mid after w mids ws t later (inl h) = subst (λ st. Said st before after w ws) (sym h.0) (inr (too_long (Appends before after) before mid after w ws t (whole_more before mid after [] limit_text t.gave.output h.1), stays_bare before mid t))
    says_long status before mid after w mids ws t later (inr (inl h)) =
        subst (λ st. Said st before after w ws) (sym h.0) (record { cause = omega (arith, h.1); output = inr (inl (too_long (WritesFront before after) before mid after w ws t (front_more before mid after [] limit_text t.gave.output h.2), stays_bare before mid t)) })
    says_long status before mid after w mids ws t later (inr (inr h)) = subst (λ st. Said st before after w ws) (sym h.0) (inr (inl (too_long (WritesFront before after) before mid after w ws t (front_more before mid after [] limit_text t.gave.output h.1), stays_bare before mid t)))

    -- 6
    says_unwritten : (before after : Option (List ℕ)) (w ws : ℕ) → IsUnwritten base Failed (cut past bytes) m n before after → Said statuses.Disk before after w ws
    says_unwritten before after w ws u =
        let given = gives before after after w ws u.config u.stored u.wants u.gave in (
          record {
            stored = (bare_of store stored base begins u.stored u.wants).0;
            cause = u.failed.failed.cause;
            leaves = inr (record { config = u.config; gives = given; each = u.failed.failed.each });
            output = u.gave.output;
          },
          λ c left. during_as (call before after w ws) before_images u.config c given (u.failed.moments c left),
        )

    later_rose : (w mids ws : ℕ) → mids ≤ ws → Rose w mids → Rose w ws
    later_rose w mids ws h g = omega arith

    -- nothing more was written
    silent : (status own : Status) (before mid after : Option (List ℕ)) (w ws : ℕ) → (status ≡ own) × (after ≡ mid) → Said own before mid w ws → Said status before after w ws
    silent status own before mid after w ws h said = subst (λ st. Said st before after w ws) (sym h.0) (subst (λ now. Said own before now w ws) (sym h.1) said)

    -- whatever ended the run
    pub says_ended : {A : Type 0} (result : Result A Ended) (status : Status) (before mid after : Option (List ℕ)) (w mids ws : ℕ) → TakesFront left left_after bytes past → RunsScript result base Done Failed past (cut past bytes) m n before mid →
        IfErr result (λ end. EndHasCause end w mids) → w ≤ mids → mids ≤ ws → Closes result status mid after mids ws → Said status before after w ws
    says_ended (Ok x) status before mid after w mids ws taken ran cause later then c = silent status statuses.Fine before mid after w ws c (says_fine before mid w ws taken ran)
    says_ended (Err ends.Limit) status before mid after w mids ws taken ran cause later then c = says_stopped status statuses.Limit limit before mid after w mids ws (λ e. inl e) ran later c
    says_ended (Err (ends.AtFault number fault)) status before mid after w mids ws taken ran cause later then c =
        says_stopped status statuses.Script (at_fault number fault) before mid after w mids ws (λ e. record { number = number; fault = fault; stopped = e }) ran later c
    says_ended (Err ends.NoRoom) status before mid after w mids ws taken ran cause later then c = says_long status before mid after w mids ws ran later c
    says_ended (Err ends.Disk) status before mid after w mids ws taken ran cause later then c = silent status statuses.Disk before mid after w ws c (says_unwritten before mid w ws ran)
    says_ended (Err ends.Write) status before mid after w mids ws taken ran cause later then c =
        silent status statuses.Write before mid after w ws c (record { cause = later_rose w mids ws then cause; output = broke_off before mid w ws ran })
    says_ended (Err ends.Memory) status before mid after w mids ws taken ran cause later then c = silent status statuses.Memory before mid after w ws c (broke_off before mid w ws ran)
