-- What the status of a run says that has the disk of its journal.
use Rattle.std.proofs.Common.{◌≡◌, ℕ, ◌≤◌, Bool, true, false, List, [], Option, None, Result, Ok, Err, IfErr, refl, sym, ◌∙◌, ap, subst}
use Rattle.emu_names.specs.Count.{Rose}
use Rattle.emu_names.specs.declared.limits.TheConstants.{SCRIPT_BYTES}
use Rattle.emu_io.specs.declared.faults.ReadFault.{ReadFault}
use Rattle.emu_io.specs.declared.faults.ReadFault.TheVariants as read_faults
use Rattle.emu_io.specs.Inner.Fronts.{TakesFront, IsFrontOf}
use Rattle.db_config.specs.declared.parts.ConfigParts.{ConfigParts}
use Rattle.live_run.specs.edit_rules.declared.acts.Entry.{Entry}
use Rattle.live_run.specs.session_core.InOrder.{Outage}
use Rattle.emu_disk.specs.declared.disk.Disk as disks
use Rattle.edit_journal.specs.declared.journal.Journal.{Journal}
use Rattle.live_run.specs.live_book.Kept.{KeepsIn}
use Rattle.live_run.specs.live_book.Commits.{has_journal}
use Rattle.book_opening.specs.Inner.Opens.{IsEmpty}
use Rattle.program_output.specs.declared.ended.Ended.{Ended}
use Rattle.program_output.specs.declared.ended.Ended.TheVariants as ends
use Rattle.program_output.specs.declared.status.Status.{Status}
use Rattle.script_runs.specs.Cuts.{cut}
use Rattle.script_runs.specs.Scripts.{Parsed, read_from}
use Rattle.script_runs.specs.Bases.{Base, store_of, wants_by, is_stored, IsBaseOf}
use Rattle.script_runs.specs.Inner.Bases.{fresh_base}
use Rattle.script_runs.specs.Says.{Says}
use Rattle.script_runs.specs.Inner.Says.{call_of}
use Rattle.script_runs.specs.Inner.Reached.{IsBeginOf, RunsScript, EndsScript, IsRunDone, IsRunFailed, IsRunKept, LeavesSince}
use Rattle.program_output.specs.Inner.Written.{EndHasCause}
use Rattle.script_runs.specs.Inner.Ran.{HasDisk, BeginsBefore, IsUnread}
use Rattle.program_output.specs.Inner.Statuses.{Closes}
use Rattle.script_runs.proofs.MomentLemmas.{run_none, run_store}
use Rattle.script_runs.proofs.DiskLemmas.{RunFailedBy, begin_of, run_done_of, run_failed_of}
use Rattle.script_runs.proofs.SaysLemmas.{says_ended}
use Rattle.script_runs.proofs.EndLemmas.{unread_says}

-- What is known of the requests that were run, and of a configuration that could not be written, may be less.
module _ (base : Base) (Done Known : Parsed → List Outage → Type 0) (Failed Other : ConfigParts → Type 0) (weaker : (p : Parsed) (outages : List Outage) → Done p outages → Known p outages)
    (other : is_stored base ≡ true → (config : ConfigParts) → Failed config → Other config) where
  ends_weaker : (end : Ended) (past : Bool) (lines : List (List ℕ)) (m n : ℕ) (before now : Option (List ℕ)) → EndsScript end base Done Failed past lines m n before now → EndsScript end base Known Other past lines m n before now
  ends_weaker ends.Limit past lines m n before now e = record { asked = e.asked; read = e.read; script = e.script; done_lines = e.done_lines; front = e.front; outages = e.outages; done = weaker _ _ e.done; output = e.output }
  ends_weaker (ends.AtFault number fault) past lines m n before now e = record { asked = e.asked; read = e.read; script = e.script; done_lines = e.done_lines; front = e.front; outages = e.outages; done = weaker _ _ e.done; output = e.output }
  ends_weaker ends.Write past lines m n before now e = record { asked = e.asked; read = e.read; parsed = e.parsed; script = e.script; outages = e.outages; done = weaker _ _ e.done; output = e.output }
  ends_weaker ends.Memory past lines m n before now e = record { asked = e.asked; read = e.read; parsed = e.parsed; script = e.script; outages = e.outages; done = weaker _ _ e.done; output = e.output }
  ends_weaker ends.NoRoom past lines m n before now e = record { config = e.config; gave = e.gave; stored = e.stored; wants = e.wants; over = e.over; done = weaker _ _ e.done }
  ends_weaker ends.Disk past lines m n before now e = record { config = e.config; gave = e.gave; stored = e.stored; wants = e.wants; failed = other e.stored e.config e.failed }

  runs_weaker : {A : Type 0} (result : Result A Ended) (past : Bool) (lines : List (List ℕ)) (m n : ℕ) (before now : Option (List ℕ)) → RunsScript result base Done Failed past lines m n before now → RunsScript result base Known Other past lines m n before now
  runs_weaker (Ok x) past lines m n before now e = record { asked = e.asked; read = e.read; parsed = e.parsed; script = e.script; whole = e.whole; outages = e.outages; done = weaker _ _ e.done; output = e.output }
  runs_weaker (Err end) past lines m n before now e = ends_weaker end past lines m n before now e

module _ {D : Type 0} (disk : disks.Ghosts D) (store : Bool) (base : Base) (begin now : D) (begins : IsBaseOf store (disk.reads begin) base) where
  -- of a run whose journal has this disk
  pub disk_says : {A : Type 0} (ended : Result A Ended) (status : Status) (journal : Option (Journal D)) → HasDisk journal now → has_journal journal ≡ is_stored base →
      (left left_after : Option (List ℕ)) (r rs m n : ℕ) (past : Bool) (bytes : List ℕ) → IsFrontOf left SCRIPT_BYTES bytes past → TakesFront left left_after bytes past → (before mid after : Option (List ℕ)) (w mids ws : ℕ) →
      RunsScript ended base (IsRunKept disk base begin journal) (IsRunFailed disk begin journal) past (cut past bytes) m n before mid → IfErr ended (λ end. EndHasCause end w mids) → w ≤ mids → mids ≤ ws → Closes ended status mid after mids ws →
      Says status (call_of store (disk.reads begin) left left_after before after r rs w ws m n (disk.faults begin) (disk.faults now)) (disk.may_leave begin) (disk.left_since now (disk.moment begin)) (disk.may_leave now)
  disk_says ended status journal has is left left_after r rs m n past bytes front taken before mid after w mids ws ran cause later then c =
      says_ended store (disk.reads begin) left left_after r rs m n (disk.faults begin) (disk.faults now) base begins (disk.may_leave begin) (disk.left_since now (disk.moment begin)) (disk.may_leave now) past bytes front ended status before mid after w mids ws taken
      (runs_weaker base (IsRunKept disk base begin journal) (IsRunDone base (disk.faults begin) (disk.faults now) (disk.may_leave begin) (disk.left_since now (disk.moment begin)) (disk.may_leave now)) (IsRunFailed disk begin journal) (RunFailedBy (disk.faults begin) (disk.faults now) (disk.may_leave begin) (disk.left_since now (disk.moment begin)) (disk.may_leave now))
      (run_done_of disk base begin journal now has) (λ stored. run_failed_of disk begin journal now (is ∙ stored) has) ended past (cut past bytes) m n before mid ran) cause later then c

stored_fresh : (store : Bool) → is_stored (fresh_base store) ≡ store
stored_fresh true = refl
stored_fresh false = refl

wants_fresh : (store : Bool) → wants_by (fresh_base store) ≡ true
wants_fresh true = refl
wants_fresh false = refl

-- Over no store, or a bare one.
module _ {D : Type 0} (disk : disks.Ghosts D) (store : Bool) (begin now : D) (old : Option (Journal D)) (is : has_journal old ≡ store) (begins : IsBaseOf store (disk.reads begin) (fresh_base store)) (low : BeginsBefore disk.faults old begin) (since : LeavesSince disk begin old (disk.may_leave begin)) where
  low_begin : IsBeginOf disk.faults (fresh_base store) old (disk.faults begin)
  low_begin = begin_of disk.may_leave disk.faults (fresh_base store) old begin (is ∙ sym (stored_fresh store)) low

  pub fresh_unread : HasDisk old now → IsEmpty disk.may_leave old → (left left_after : Option (List ℕ)) (r rs m : ℕ) (fault : ReadFault) (status : Status) (written : Option (List ℕ)) (w : ℕ) → IsUnread fault status → (fault ≡ read_faults.Failed → Rose r rs) →
      Says status (call_of store (disk.reads begin) left left_after written written r rs w w m m (disk.faults begin) (disk.faults now)) (disk.may_leave begin) (disk.left_since now (disk.moment begin)) (disk.may_leave now)
  fresh_unread has empty left left_after r rs m fault status written w un cause =
      unread_says store (disk.reads begin) left left_after r rs m (disk.faults begin) (disk.faults now) (fresh_base store) begins (disk.may_leave begin) (disk.left_since now (disk.moment begin)) (disk.may_leave now) fault status written w un cause
      (run_done_of disk (fresh_base store) begin old now has (read_from (wants_by (fresh_base store))) []
      (subst (λ wants. IsRunKept disk (fresh_base store) begin old (read_from wants) []) (sym (wants_fresh store)) (run_none disk begin store old is low_begin since empty)))

  pub fresh_says : (journal : Option (Journal D)) → HasDisk journal now → has_journal journal ≡ has_journal old → (left left_after : Option (List ℕ)) (r rs m n : ℕ) (past : Bool) (bytes : List ℕ) → IsFrontOf left SCRIPT_BYTES bytes past → TakesFront left left_after bytes past →
      {A : Type 0} (ended : Result A Ended) (status : Status) (before mid after : Option (List ℕ)) (w mids ws : ℕ) →
      ((base : Base) (b : D) → base ≡ fresh_base (has_journal old) → IsBeginOf disk.faults base old (disk.faults b) → LeavesSince disk b old (disk.may_leave b) → RunsScript ended base (IsRunKept disk base b journal) (IsRunFailed disk b journal) past (cut past bytes) m n before mid) →
      IfErr ended (λ end. EndHasCause end w mids) → w ≤ mids → mids ≤ ws → Closes ended status mid after mids ws →
      Says status (call_of store (disk.reads begin) left left_after before after r rs w ws m n (disk.faults begin) (disk.faults now)) (disk.may_leave begin) (disk.left_since now (disk.moment begin)) (disk.may_leave now)
  fresh_says journal has same left left_after r rs m n past bytes front taken ended status before mid after w mids ws ran cause later then c =
      disk_says disk store (fresh_base store) begin now begins ended status journal has (same ∙ is ∙ sym (stored_fresh store)) left left_after r rs m n past bytes front taken before mid after w mids ws
      (ran (fresh_base store) begin (ap (λ b. fresh_base b) (sym is)) low_begin since) cause later then c

-- Over a store with a configuration.
module _ {D : Type 0} (disk : disks.Ghosts D) (config : ConfigParts) (history : List Entry) (begin now : D) (old : Option (Journal D)) (is : has_journal old ≡ true) (keeps : KeepsIn disk.may_leave config history None old)
    (begins : IsBaseOf true (disk.reads begin) (store_of config history)) (low : BeginsBefore disk.faults old begin) (since : LeavesSince disk begin old (disk.may_leave begin)) where
  abbrev base : Base
  base = store_of config history

  pub store_low : IsBeginOf disk.faults base old (disk.faults begin)
  store_low = begin_of disk.may_leave disk.faults base old begin is low

  pub store_unread : HasDisk old now → (left left_after : Option (List ℕ)) (r rs m : ℕ) (fault : ReadFault) (status : Status) (written : Option (List ℕ)) (w : ℕ) → IsUnread fault status → (fault ≡ read_faults.Failed → Rose r rs) →
      Says status (call_of true (disk.reads begin) left left_after written written r rs w w m m (disk.faults begin) (disk.faults now)) (disk.may_leave begin) (disk.left_since now (disk.moment begin)) (disk.may_leave now)
  store_unread has left left_after r rs m fault status written w un cause =
      unread_says true (disk.reads begin) left left_after r rs m (disk.faults begin) (disk.faults now) base begins (disk.may_leave begin) (disk.left_since now (disk.moment begin)) (disk.may_leave now) fault status written w un cause
      (run_done_of disk base begin old now has (read_from false) [] (run_store disk begin config history old is store_low since keeps))

  pub store_says : (journal : Option (Journal D)) → HasDisk journal now → has_journal journal ≡ true → (left left_after : Option (List ℕ)) (r rs m n : ℕ) (past : Bool) (bytes : List ℕ) → IsFrontOf left SCRIPT_BYTES bytes past → TakesFront left left_after bytes past →
      {A : Type 0} (ended : Result A Ended) (status : Status) (before mid after : Option (List ℕ)) (w mids ws : ℕ) →
      ((b : D) → IsBeginOf disk.faults base old (disk.faults b) → LeavesSince disk b old (disk.may_leave b) → KeepsIn disk.may_leave config history None old → RunsScript ended base (IsRunKept disk base b journal) (IsRunFailed disk b journal) past (cut past bytes) m n before mid) →
      IfErr ended (λ end. EndHasCause end w mids) → w ≤ mids → mids ≤ ws → Closes ended status mid after mids ws →
      Says status (call_of true (disk.reads begin) left left_after before after r rs w ws m n (disk.faults begin) (disk.faults now)) (disk.may_leave begin) (disk.left_since now (disk.moment begin)) (disk.may_leave now)
  store_says journal has same left left_after r rs m n past bytes front taken ended status before mid after w mids ws ran cause later then c =
      disk_says disk true base begin now begins ended status journal has same left left_after r rs m n past bytes front taken before mid after w mids ws (ran begin store_low since keeps) cause later then c
