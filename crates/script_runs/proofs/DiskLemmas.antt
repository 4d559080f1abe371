-- The disk behind a run: its count, and its images.
use Rattle.std.proofs.Common.{◌≡◌, ℕ, Bool, true, false, List, [], Option, Some, None, refl, sym, ap, subst, arith}
use Rattle.emu_names.specs.Count.{Rose, RoseBy}
use Rattle.db_config.specs.declared.parts.ConfigParts.{ConfigParts}
use Rattle.live_run.specs.edit_rules.declared.acts.Entry.{Entry}
use Rattle.live_run.specs.session_core.declared.line.Line.{Line}
use Rattle.live_run.specs.session_core.InOrder.{Outage, disk_outages}
use Rattle.emu_disk.specs.declared.disk.Disk as disks
use Rattle.edit_journal.specs.declared.journal.Journal.{Journal}
use Rattle.edit_journal.specs.Held.{disk_of}
use Rattle.edit_journal.proofs.Kept.{stands_may}
use Rattle.live_run.specs.live_book.Kept.{faults_in}
use Rattle.live_run.specs.live_book.Commits.{has_journal}
use Rattle.book_opening.specs.Opens.{DuringNew}
use Rattle.live_run.proofs.of_live_book.Storing.{images}
use Rattle.script_runs.specs.Scripts.{Parsed}
use Rattle.script_runs.specs.Bases.{Base, no_store, bare_store, store_of, is_stored, opening_by, config_by, counted, EachOf, LeavesStore, AtEach}
use Rattle.script_runs.specs.Inner.Runs.{history_by}
use Rattle.script_runs.specs.Inner.Reached.{IsKept, IsDone, IsFailed, IsBeginOf, KeepsStore, KeepsHistory, AtMomentOf, DuringStart, IsRunDone, IsRunFailed, IsRunKept, LeavesSince}
use Rattle.script_runs.specs.Inner.Ran.{HasDisk, BeginsBefore}

-- the disk's count rose, and each image is bare or has the configuration alone
pub record FailedBy (begin now : ℕ) (images : List ℕ → Type 0) (config : ConfigParts) : Type 0 where
  pub cause : Rose begin now
  pub each : EachOf images (DuringNew config)

module _ {D : Type 0} (may_leave : D → List ℕ → Type 0) (faults : D → ℕ) where
  pub counted_is : (base : Base) (journal : Option (Journal D)) (disk : D) → has_journal journal ≡ is_stored base → HasDisk journal disk → counted base (faults disk) ≡ faults_in faults journal
  counted_is no_store None disk s h = refl
  counted_is bare_store (Some journal) disk s h = ap faults h
  counted_is (store_of config history) (Some journal) disk s h = ap faults h
  counted_is no_store (Some journal) disk s h = absurd (cc)
  counted_is bare_store None disk s h = absurd (cc)
  counted_is (store_of config history) None disk s h = absurd (cc)

  history_left : (config : ConfigParts) (opening : List Entry) (lines : List Line) (outages : List Outage) (history : List Entry) (journal : Journal D) → KeepsHistory may_leave true config opening lines outages history (Some journal) → LeavesStore true (Some config) opening lines outages history (may_leave (disk_of journal))
  history_left config opening lines outages history journal k = record { lost = k.lost; why = k.why; each = λ c image. images may_leave config history k.lost journal k.keeps c image }

  store_left : (config : Option ConfigParts) (opening : List Entry) (lines : List Line) (outages : List Outage) (history : List Entry) (journal : Journal D) → KeepsStore may_leave true config opening lines outages history (Some journal) → LeavesStore true config opening lines outages history (may_leave (disk_of journal))
  store_left None opening lines outages history journal k = λ c image. stands_may may_leave [] None journal k c image
  store_left (Some config) opening lines outages history journal k = history_left config opening lines outages history journal k

  leaves_store : (stored : Bool) (config : Option ConfigParts) (opening : List Entry) (lines : List Line) (outages : List Outage) (history : List Entry) (journal : Option (Journal D)) (disk : D) → has_journal journal ≡ stored → HasDisk journal disk → KeepsStore may_leave stored config opening lines outages history journal →
      LeavesStore stored config opening lines outages history (may_leave disk)
  leaves_store false config opening lines outages history journal disk s h k = tt
  leaves_store true config opening lines outages history (Some journal) disk s h k = subst (λ d. LeavesStore true config opening lines outages history (may_leave d)) (sym h) (store_left config opening lines outages history journal k)
  leaves_store true config opening lines outages history None disk s h k = absurd (cc)

  -- what the journal keeps, of its disk
  pub done_of : (base : Base) (begin : ℕ) (journal : Option (Journal D)) (disk : D) → HasDisk journal disk → (p : Parsed) (outages : List Outage) → IsKept may_leave faults base begin journal p outages → IsDone base begin (faults disk) (may_leave disk) p outages
  done_of base begin journal disk h p outages k = record {
    each = k.each;
    rose = subst (λ n. RoseBy (disk_outages (is_stored base) outages) (counted base begin) n) (sym (counted_is base journal disk k.stored h)) k.rose;
    left = leaves_store (is_stored base) (config_by base p.config) (opening_by base) p.requests outages (history_by base p outages) journal disk k.stored h k.kept;
  }

  pub failed_of : (begin : ℕ) (journal : Option (Journal D)) (disk : D) → has_journal journal ≡ true → HasDisk journal disk → (config : ConfigParts) → IsFailed may_leave faults begin journal config → FailedBy begin (faults disk) (may_leave disk) config
  failed_of begin (Some journal) disk s h config f = record {
    cause = subst (λ n. Rose begin n) (sym (ap faults h)) f.cause;
    each = subst (λ d. EachOf (may_leave d) (DuringNew config)) (sym h) (f.images journal refl);
  }
  failed_of begin None disk s h config f = absurd (cc)

  pub begin_of : (base : Base) (journal : Option (Journal D)) (disk : D) → has_journal journal ≡ is_stored base → BeginsBefore faults journal disk → IsBeginOf faults base journal (faults disk)
  begin_of no_store None disk s h = omega arith
  begin_of bare_store (Some journal) disk s h = h
  begin_of (store_of config history) (Some journal) disk s h = h
  begin_of no_store (Some journal) disk s h = absurd (cc)
  begin_of bare_store None disk s h = absurd (cc)
  begin_of (store_of config history) None disk s h = absurd (cc)

-- Of a run, with what a crash at some moment of it left.

-- since a run began, by the disk of its journal
pub since_of : {D : Type 0} (disk : disks.Ghosts D) (begin : D) (stored : Bool) (journal : Option (Journal D)) (now : D) (P : List ℕ → Type 0) → has_journal journal ≡ stored → HasDisk journal now → LeavesSince disk begin journal P → AtEach stored (disk.left_since now (disk.moment begin)) P
since_of disk begin false journal now P s h since = tt
since_of disk begin true (Some journal) now P s h since = subst (λ d. EachOf (disk.left_since d (disk.moment begin)) P) (sym h) since.each
since_of disk begin true None now P s h since = absurd (cc)

pub run_done_of : {D : Type 0} (disk : disks.Ghosts D) (base : Base) (begin : D) (journal : Option (Journal D)) (now : D) → HasDisk journal now → (p : Parsed) (outages : List Outage) → IsRunKept disk base begin journal p outages →
    IsRunDone base (disk.faults begin) (disk.faults now) (disk.may_leave begin) (disk.left_since now (disk.moment begin)) (disk.may_leave now) p outages
run_done_of disk base begin journal now h p outages k = record {
  done = done_of disk.may_leave disk.faults base (disk.faults begin) journal now h p outages k.kept;
  moments = since_of disk begin (is_stored base) journal now (AtMomentOf (disk.may_leave begin) base p outages) k.kept.stored h k.moments;
}

-- the same where the configuration could not be written
pub record RunFailedBy (begin now : ℕ) (before since images : List ℕ → Type 0) (config : ConfigParts) : Type 0 where
  pub failed : FailedBy begin now images config
  pub moments : EachOf since (DuringStart before config)

pub run_failed_of : {D : Type 0} (disk : disks.Ghosts D) (begin : D) (journal : Option (Journal D)) (now : D) → has_journal journal ≡ true → HasDisk journal now → (config : ConfigParts) → IsRunFailed disk begin journal config →
    RunFailedBy (disk.faults begin) (disk.faults now) (disk.may_leave begin) (disk.left_since now (disk.moment begin)) (disk.may_leave now) config
run_failed_of disk begin journal now s h config f = record {
  failed = failed_of disk.may_leave disk.faults (disk.faults begin) journal now s h config f.failed;
  moments = since_of disk begin true journal now (DuringStart (disk.may_leave begin) config) s h f.moments;
}
