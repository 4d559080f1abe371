-- What a crash at some moment of a run may have left, one line more.
use Rattle.std.proofs.Common.{◌≡◌, ◌⊎◌, inl, inr, ℕ, ◌+◌, ◌≤◌, Bool, true, false, List, [], ◌∷◌, ◌++◌, length, take, Option, Some, None, Result, Ok, Err, refl, sym, ◌∙◌, ap, subst, arith, length-append, append-nil}
use Rattle.std.proofs.lemmas.List.{take-append-le}
use Rattle.std.proofs.Math.Seq.{take-length, take-append_seam}
use Rattle.db_config.specs.declared.parts.ConfigParts.{ConfigParts}
use Rattle.live_run.specs.edit_rules.declared.acts.Act.{Act}
use Rattle.live_run.specs.edit_rules.declared.acts.Entry.{Entry}
use Rattle.live_run.specs.session_core.declared.line.Line.{Line}
use Rattle.live_run.specs.session_core.declared.line.Reply.{Reply}
use Rattle.live_run.specs.session_core.Steps.{State, start}
use Rattle.live_run.specs.session_core.Worlds.{act_wanted}
use Rattle.live_run.specs.session_core.Answers.{entry_of}
use Rattle.live_run.specs.session_core.InOrder.{Outage, in_turn, one_turn}
use Rattle.emu_disk.specs.declared.disk.Disk as disks
use Rattle.emu_disk.proofs.Moments.{joined, weaker}
use Rattle.edit_journal.specs.declared.journal.Journal.{Journal}
use Rattle.edit_journal.specs.Held.{disk_of}
use Rattle.live_run.specs.edit_rules.declared.commit_fault.EditFault.{EditFault}
use Rattle.live_run.specs.edit_rules.declared.commit_fault.EditFault.TheVariants as faults
use Rattle.live_run.specs.live_book.Histories.{Stands}
use Rattle.live_run.specs.live_book.Kept.{BookParts, CrashLeaves, KeepsIn, StandsOrLost, faults_in}
use Rattle.live_run.specs.live_book.Commits.{Commits, DuringCommit, has_journal}
use Rattle.book_opening.specs.Inner.Opens.{IsEmpty}
use Rattle.session_run.specs.Orders.{IsDiskRefused}
use Rattle.session_run.specs.Inner.Orders.{ChangesBook, state_of}
use Rattle.live_run.specs.session_core.Inner.Told.{commit_reply}
use Rattle.script_lines.specs.declared.faults.ReadLine.TheVariants as reads
use Rattle.script_runs.specs.declared.running.Running.{Running}
use Rattle.script_runs.specs.Scripts.{Parsed, read_from, with_read}
use Rattle.script_runs.specs.Bases.{AtMoment, Base, IfRefused, IsOfRun, IsOfRunIn, config_by, is_stored, opening_by, store_of, counted}
use Rattle.script_runs.specs.Inner.Bases.{fresh_base}
use Rattle.script_runs.specs.Inner.Runs.{history_by}
use Rattle.script_runs.specs.Inner.Taken.{TakesLine}
use Rattle.script_runs.specs.Inner.Reached.{AtMomentOf, DuringStart, IsAt, IsBeginOf, IsKept, IsRunKept, LeavesSince}
use Rattle.script_runs.proofs.KeptLemmas.{before, before_keeps, here, if_more, kept_blank, kept_config, kept_none, kept_request, kept_store, new_history, old_history, refused_last, refused_there}

-- What a crash leaves, from call to call.

module _ {D : Type 0} (disk : disks.Ghosts D) (begin : D) where
  pub since_weaker : (journal : Option (Journal D)) (P Q : List ℕ → Type 0) → ((c : List ℕ) → P c → Q c) → LeavesSince disk begin journal P → LeavesSince disk begin journal Q
  since_weaker None P Q change h = tt
  since_weaker (Some journal) P Q change h = weaker disk.moment disk.left_since begin (disk_of journal) P Q change h

  pub since_joined : (old new : Option (Journal D)) (P R Q : List ℕ → Type 0) → ((c : List ℕ) → P c → Q c) → ((c : List ℕ) → R c → Q c) → LeavesSince disk begin old P → CrashLeaves disk.moment disk.left_since old new R → LeavesSince disk begin new Q
  since_joined None None P R Q one two h crash = tt
  since_joined (Some old) (Some new) P R Q one two h crash =
      joined disk.moment disk.left_since begin (disk_of old) (disk_of new) Q (weaker disk.moment disk.left_since begin (disk_of old) P Q one h) (weaker disk.moment disk.left_since (disk_of old) (disk_of new) R Q two crash)
  since_joined None (Some new) P R Q one two h crash = absurd crash
  since_joined (Some old) None P R Q one two h crash = absurd crash

  pub since_same : (old new : Option (Journal D)) (P Q : List ℕ → Type 0) → new ≡ old → ((c : List ℕ) → P c → Q c) → LeavesSince disk begin old P → LeavesSince disk begin new Q
  since_same old new P Q same change h = subst (λ j. LeavesSince disk begin j Q) (sym same) (since_weaker old P Q change h)

-- One line.

-- during a line a crash leaves the history from before, or also what was in doubt; or the history behind the line; or
-- the line's change behind the history from before, where the disk refused it
abbrev pub DuringLine : ConfigParts → List Entry → List Entry → State → Line → Reply → Option Entry → List ℕ → Type 0
DuringLine config history more st l reply lost c =
    StandsOrLost config history lost c
    ⊎ (Stands config (history ++ more) c
    ⊎ ((next : Entry) × IsDiskRefused st l reply next × Stands config (history ++ next ∷ []) c))

-- what a line does to a book: the history goes on, and a crash leaves what it may
pub record Goes {D : Type 0} (disk : disks.Ghosts D) (old new : BookParts D) (st : State) (l : Line) (reply : Reply) (lost : Option Entry) : Type 0 where
  pub more : List Entry
  pub grew : new.history ≡ old.history ++ more
  pub crash : (new.journal ≡ old.journal) ⊎ CrashLeaves disk.moment disk.left_since old.journal new.journal (DuringLine old.config old.history more st l reply lost)

crash_weaker : {D : Type 0} (moment : D → ℕ) (left_since : D → ℕ → List ℕ → Type 0) (old new : Option (Journal D)) (P Q : List ℕ → Type 0) → ((c : List ℕ) → P c → Q c) → CrashLeaves moment left_since old new P → CrashLeaves moment left_since old new Q
crash_weaker moment left_since None None P Q change h = tt
crash_weaker moment left_since (Some old) (Some new) P Q change h = weaker moment left_since (disk_of old) (disk_of new) P Q change h
crash_weaker moment left_since None (Some new) P Q change h = absurd h
crash_weaker moment left_since (Some old) None P Q change h = absurd h

not_reached : (A B : Type 0) → A ⊎ (⊥ × B) → A
not_reached A B (inl h) = h
not_reached A B (inr h) = absurd h.0

module _ {D : Type 0} (disk : disks.Ghosts D) (old new : BookParts D) (st : State) (l : Line) (reply : Reply) (lost : Option Entry) where
  -- a line that is no edit
  goes_not : new ≡ old → Goes disk old new st l reply lost
  goes_not same = record { more = []; grew = ap (λ b. b.history) same ∙ sym (append-nil old.history); crash = inl (ap (λ b. b.journal) same) }

  module _ (act : Act) (is : act_wanted st l.session.0 l.request ≡ Some act) (keeps : KeepsIn disk.may_leave old.config old.history lost old.journal) where
    abbrev next : Entry
    next = entry_of l act

    refused_here : reply ≡ commit_reply l (Err faults.Disk) → IsDiskRefused st l reply next
    refused_here told = record { act = act; asks = is; entry = refl; refused = ap (λ r. r.answer) told }

    accepted : (n : ℕ) (c : List ℕ) → DuringCommit (Ok n) old.config old.history lost next c → DuringLine old.config old.history (next ∷ []) st l reply lost c
    accepted n c (inl h) = inl h
    accepted n c (inr h) = inr (inl h.1)

    refused : reply ≡ commit_reply l (Err faults.Disk) → (c : List ℕ) → DuringCommit {T = ℕ} (Err faults.Disk) old.config old.history lost next c → DuringLine old.config old.history [] st l reply lost c
    refused told c (inl h) = inl h
    refused told c (inr h) = inr (inr (next, refused_here told, h.1))

    -- the disk was not called
    unreached : (made : Result ℕ EditFault) → Commits disk.may_leave disk.moment disk.left_since disk.faults old next made new → new.history ≡ old.history
        → ((c : List ℕ) → DuringCommit made old.config old.history lost next c → StandsOrLost old.config old.history lost c) → Goes disk old new st l reply lost
    unreached made did same only = record {
      more = [];
      grew = same ∙ sym (append-nil old.history);
      crash = inr (crash_weaker disk.moment disk.left_since old.journal new.journal (DuringCommit made old.config old.history lost next) (DuringLine old.config old.history [] st l reply lost) (λ c h. inl (only c h)) (did.any_moment lost keeps));
    }

    goes_edit : (made : Result ℕ EditFault) → reply ≡ commit_reply l made → Commits disk.may_leave disk.moment disk.left_since disk.faults old next made new → Goes disk old new st l reply lost
    goes_edit (Ok n) told did = record {
      more = next ∷ [];
      grew = did.history;
      crash = inr (crash_weaker disk.moment disk.left_since old.journal new.journal (DuringCommit (Ok n) old.config old.history lost next) (DuringLine old.config old.history (next ∷ []) st l reply lost) (accepted n) (did.any_moment lost keeps));
    }
    goes_edit (Err faults.Disk) told did = record {
      more = [];
      grew = did.history ∙ sym (append-nil old.history);
      crash = inr (crash_weaker disk.moment disk.left_since old.journal new.journal (DuringCommit {T = ℕ} (Err faults.Disk) old.config old.history lost next) (DuringLine old.config old.history [] st l reply lost) (refused told) (did.any_moment lost keeps));
    }
    goes_edit (Err (faults.HistoryFull n)) told did = unreached (Err (faults.HistoryFull n)) did did.history (λ c h. not_reached (StandsOrLost old.config old.history lost c) (Stands old.config (old.history ++ next ∷ []) c) h)
    goes_edit (Err (faults.Broken breach n)) told did = unreached (Err (faults.Broken breach n)) did did.history (λ c h. not_reached (StandsOrLost old.config old.history lost c) (Stands old.config (old.history ++ next ∷ []) c) h)
    goes_edit (Err (faults.StoreFull n)) told did = unreached (Err (faults.StoreFull n)) did did.history (λ c h. not_reached (StandsOrLost old.config old.history lost c) (Stands old.config (old.history ++ next ∷ []) c) h)
    goes_edit (Err faults.Memory) told did = unreached (Err faults.Memory) did did.history (λ c h. not_reached (StandsOrLost old.config old.history lost c) (Stands old.config (old.history ++ next ∷ []) c) h)

  pub goes : KeepsIn disk.may_leave old.config old.history lost old.journal → (wanted : Option Act) → act_wanted st l.session.0 l.request ≡ wanted → ChangesBook disk.may_leave disk.moment disk.left_since disk.faults old l wanted reply new → Goes disk old new st l reply lost
  goes keeps (Some act) is change = goes_edit act is keeps change.made change.told change.commits
  goes keeps None is change = goes_not change

-- What an image is of, one line more.

module _ (store : Bool) (opening : List Entry) (lines : List Line) (outages : List Outage) (history more later : List Entry) (l : Line) (o : Outage) (c : List ℕ) (later_is : later ≡ history ++ more) where
  of_more : (config : ConfigParts) → IsOfRun store config opening lines outages history c → IsOfRun store config opening (lines ++ l ∷ []) (outages ++ o ∷ []) later c
  of_more config r = record {
    count = r.count;
    from = r.from;
    to = let long : length later ≡ length history + length more = ap length later_is ∙ length-append history more in omega (arith, long, r.to);
    lost = r.lost;
    why = if_more store (start config opening) lines outages l o r.lost r.why;
    stands = subst (λ h. StandsOrLost config h r.lost c) (sym (ap (λ h. take r.count h) later_is ∙ take-append-le r.count history more r.to)) r.stands;
  }

  pub of_more_in : (given : Option ConfigParts) → IsOfRunIn store given opening lines outages history c → IsOfRunIn store given opening (lines ++ l ∷ []) (outages ++ o ∷ []) later c
  of_more_in None h = h
  of_more_in (Some config) h = of_more config h

  module _ (config : ConfigParts) (st after : State) (reply : Reply) (each : length outages ≡ length lines) (stands_at : st ≡ (in_turn store (start config opening) lines outages).1)
      (turn : one_turn store (in_turn store (start config opening) lines outages).1 l o ≡ (reply, after)) (longer : length opening ≤ length history) where
    -- the history from before
    front_is : take (length history) later ≡ history
    front_is = ap (λ h. take (length history) h) later_is ∙ take-append_seam history more

    front_fits : length history ≤ length later
    front_fits = let long : length later ≡ length history + length more = ap length later_is ∙ length-append history more in omega (arith, long)

    pub of_line : (lost : Option Entry) → IfRefused store (start config opening) lines outages lost → DuringLine config history more st l reply lost c → IsOfRun store config opening (lines ++ l ∷ []) (outages ++ o ∷ []) later c
    of_line lost why (inl h) = record {
      count = length history;
      from = longer;
      to = front_fits;
      lost = lost;
      why = if_more store (start config opening) lines outages l o lost why;
      stands = subst (λ h. StandsOrLost config h lost c) (sym front_is) h;
    }
    of_line lost why (inr (inl h)) = record {
      count = length later;
      from = omega (arith, longer, front_fits);
      to = omega arith;
      lost = None;
      why = tt;
      stands = subst (λ h. Stands config h c) (sym later_is ∙ sym (take-length later)) h;
    }
    of_line lost why (inr (inr h)) = record {
      count = length history;
      from = longer;
      to = front_fits;
      lost = Some h.0;
      why = refused_last store (start config opening) lines outages l o h.0 each (refused_there store (in_turn store (start config opening) lines outages).1 st after l o reply h.0 stands_at turn h.1);
      stands = subst (λ t. StandsOrLost config t (Some h.0) c) (sym front_is) (inr h.2);
    }

-- The requests that were run, and what a crash left.

module _ {D : Type 0} (disk : disks.Ghosts D) (base : Base) (begin : D) where
  pub run_blank : (old new : Option (Journal D)) (p : Parsed) (outages : List Outage) → new ≡ old → IsRunKept disk base begin old p outages → IsRunKept disk base begin new (with_read p reads.Blank) outages
  run_blank old new p outages same d = record {
    kept = kept_blank disk.may_leave disk.faults base (disk.faults begin) old new p outages same d.kept;
    longer = d.longer;
    moments = subst (λ j. LeavesSince disk begin j (AtMomentOf (disk.may_leave begin) base p outages)) (sym same) d.moments;
  }

  module _ (config : ConfigParts) (p : Parsed) (outages : List Outage) (running new : Running D) (l : Line) (reply : Reply)
      (t : TakesLine disk.may_leave disk.moment disk.left_since disk.faults running l reply new) (at : IsAt base running config p outages)
      (d : IsRunKept disk base begin running.core.book.journal p outages) where
    abbrev o : Outage
    o = t.answers.outage

    abbrev behind : Parsed
    behind = with_read p (reads.Request l)

    abbrev was : List Entry
    was = history_by base p outages

    abbrev is_now : List Entry
    is_now = history_by base behind (outages ++ o ∷ [])

    abbrev lost : Option Entry
    lost = (before disk.may_leave disk.faults base (disk.faults begin) disk.moment disk.left_since config p outages running new l reply t at d.kept).lost

    abbrev there : State
    there = state_of running.core

    went : Goes disk running.core.book new.core.book there l reply lost
    went = goes disk running.core.book new.core.book there l reply lost (before_keeps disk.may_leave disk.faults base (disk.faults begin) disk.moment disk.left_since config p outages running new l reply t at d.kept) (act_wanted there l.session.0 l.request) refl t.answers.change

    old_is : was ≡ running.core.book.history
    old_is = old_history disk.may_leave disk.faults base (disk.faults begin) disk.moment disk.left_since config p outages running new l reply t at d.kept

    now_is : is_now ≡ was ++ went.more
    now_is = new_history disk.may_leave disk.faults base (disk.faults begin) disk.moment disk.left_since config p outages running new l reply t at d.kept ∙ went.grew ∙ ap (λ h. h ++ went.more) (sym old_is)

    turn : one_turn (is_stored base) (in_turn (is_stored base) (start config (opening_by base)) p.requests outages).1 l o ≡ (reply, state_of new.core)
    turn = here disk.may_leave disk.faults base (disk.faults begin) disk.moment disk.left_since config p outages running new l reply t at d.kept

    abbrev P : List ℕ → Type 0
    P = AtMomentOf (disk.may_leave begin) base p outages

    abbrev Q : List ℕ → Type 0
    Q = AtMomentOf (disk.may_leave begin) base behind (outages ++ o ∷ [])

    earlier : (c : List ℕ) → P c → Q c
    earlier c (inl h) = inl h
    earlier c (inr (inl h)) = inr (inl h)
    earlier c (inr (inr h)) = inr (inr (of_more_in (is_stored base) (opening_by base) p.requests outages was went.more is_now l o c now_is (config_by base p.config) h))

    of_this : (c : List ℕ) → DuringLine config was went.more there l reply lost c → Q c
    of_this c h = inr (inr (subst (λ given. IsOfRunIn (is_stored base) given (opening_by base) (p.requests ++ l ∷ []) (outages ++ o ∷ []) is_now c) (sym at.begun)
        (of_line (is_stored base) (opening_by base) p.requests outages was went.more is_now l o c now_is config there (state_of new.core) reply d.kept.each at.state turn d.longer lost
        (before disk.may_leave disk.faults base (disk.faults begin) disk.moment disk.left_since config p outages running new l reply t at d.kept).why h)))

    this : (c : List ℕ) → DuringLine running.core.book.config running.core.book.history went.more there l reply lost c → Q c
    this c h = of_this c (subst (λ s. DuringLine s was went.more there l reply lost c) at.book (subst (λ hs. DuringLine running.core.book.config hs went.more there l reply lost c) (sym old_is) h))

    joins : (new.core.book.journal ≡ running.core.book.journal) ⊎ CrashLeaves disk.moment disk.left_since running.core.book.journal new.core.book.journal (DuringLine running.core.book.config running.core.book.history went.more there l reply lost) → LeavesSince disk begin new.core.book.journal Q
    joins (inl same) = since_same disk begin running.core.book.journal new.core.book.journal P Q same earlier d.moments
    joins (inr crash) = since_joined disk begin running.core.book.journal new.core.book.journal P (DuringLine running.core.book.config running.core.book.history went.more there l reply lost) Q earlier this d.moments crash

    pub run_request : IsRunKept disk base begin new.core.book.journal (with_read p (reads.Request l)) (outages ++ o ∷ [])
    run_request = record {
      kept = kept_request disk.may_leave disk.faults base (disk.faults begin) disk.moment disk.left_since config p outages running new l reply t at d.kept;
      longer = let long : length is_now ≡ length was + length went.more = ap length now_is ∙ length-append was went.more in omega (arith, long, d.longer);
      moments = joins went.crash;
    }

-- Before the first request.

no_longer : (opening : List Entry) → length opening ≤ length opening
no_longer opening = omega arith

module _ {D : Type 0} (disk : disks.Ghosts D) (begin : D) where
  pub run_none : (stored : Bool) (journal : Option (Journal D)) → has_journal journal ≡ stored → counted (fresh_base stored) (disk.faults begin) ≤ faults_in disk.faults journal → LeavesSince disk begin journal (disk.may_leave begin) → IsEmpty disk.may_leave journal → IsRunKept disk (fresh_base stored) begin journal (read_from true) []
  run_none stored journal is low since empty = record {
    kept = kept_none disk.may_leave disk.faults (disk.faults begin) stored journal is low empty;
    longer = none_longer stored;
    moments = since_weaker disk begin journal (disk.may_leave begin) (AtMomentOf (disk.may_leave begin) (fresh_base stored) (read_from true) []) (λ c h. inl h) since;
  }
    where
      none_longer : (s : Bool) → length (opening_by (fresh_base s)) ≤ length (history_by (fresh_base s) (read_from true) [])
      none_longer true = no_longer []
      none_longer false = no_longer []

  begins_with : (stored : Bool) (config : ConfigParts) (journal : Option (Journal D)) → has_journal journal ≡ stored → LeavesSince disk begin journal (DuringStart (disk.may_leave begin) config) → LeavesSince disk begin journal (AtMomentOf (disk.may_leave begin) (fresh_base stored) (with_read (read_from true) (reads.Config config)) [])
  begins_with true config journal is since = since_weaker disk begin journal (DuringStart (disk.may_leave begin) config) (AtMomentOf (disk.may_leave begin) (fresh_base true) (with_read (read_from true) (reads.Config config)) []) (λ c h. start_is c h) since
    where
      start_is : (c : List ℕ) → DuringStart (disk.may_leave begin) config c → AtMomentOf (disk.may_leave begin) (fresh_base true) (with_read (read_from true) (reads.Config config)) [] c
      start_is c (inl h) = inl h
      start_is c (inr (inl h)) = inr (inl h)
      start_is c (inr (inr h)) = inr (inr (record { count = 0; from = omega arith; to = omega arith; lost = None; why = tt; stands = h }))
  begins_with false config None is since = tt
  begins_with false config (Some journal) is since = absurd (cc)

  pub run_config : (stored : Bool) (config : ConfigParts) (journal : Option (Journal D)) → has_journal journal ≡ stored → counted (fresh_base stored) (disk.faults begin) ≤ faults_in disk.faults journal → LeavesSince disk begin journal (DuringStart (disk.may_leave begin) config) → KeepsIn disk.may_leave config [] None journal →
      IsRunKept disk (fresh_base stored) begin journal (with_read (read_from true) (reads.Config config)) []
  run_config stored config journal is low since keeps = record {
    kept = kept_config disk.may_leave disk.faults (disk.faults begin) stored config journal is low keeps;
    longer = config_longer stored;
    moments = begins_with stored config journal is since;
  }
    where
      config_longer : (s : Bool) → length (opening_by (fresh_base s)) ≤ length (history_by (fresh_base s) (with_read (read_from true) (reads.Config config)) [])
      config_longer true = no_longer []
      config_longer false = no_longer []

  pub run_store : (config : ConfigParts) (history : List Entry) (journal : Option (Journal D)) → has_journal journal ≡ true → disk.faults begin ≤ faults_in disk.faults journal → LeavesSince disk begin journal (disk.may_leave begin) → KeepsIn disk.may_leave config history None journal → IsRunKept disk (store_of config history) begin journal (read_from false) []
  run_store config history journal is low since keeps = record {
    kept = kept_store disk.may_leave disk.faults (disk.faults begin) config history journal is low keeps;
    longer = no_longer history;
    moments = since_weaker disk begin journal (disk.may_leave begin) (AtMomentOf (disk.may_leave begin) (store_of config history) (read_from false) []) (λ c h. inl h) since;
  }
