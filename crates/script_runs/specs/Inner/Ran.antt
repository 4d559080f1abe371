-- What is between a run and what its status says.
use Rattle.std.specs.Prelude.{◌≡◌, ℕ, ◌≤◌, Bool, List, Option, Some, None}
use Rattle.emu_io.specs.declared.faults.ReadFault.{ReadFault}
use Rattle.emu_io.specs.declared.faults.ReadFault.TheVariants as read_faults
use Rattle.emu_disk.specs.declared.disk.Disk as disks
use Rattle.edit_journal.specs.declared.journal.Journal.{Journal}
use Rattle.edit_journal.specs.Held.{disk_of, count_in}
use Rattle.live_run.specs.live_book.Commits.{has_journal}
use Rattle.book_opening.specs.declared.fault.OpenFault.{OpenFault}
use Rattle.book_opening.specs.declared.fault.OpenFault.TheVariants as opens
use Rattle.program_output.specs.Texts.{damaged_text}
use Rattle.program_output.specs.declared.status.Status.{Status}
use Rattle.program_output.specs.declared.status.Status.TheVariants as statuses
use Rattle.script_runs.specs.Bases.{Base, IsBaseOf}
use Rattle.program_output.specs.Statuses.{WritesLast}
use Rattle.program_output.specs.Inner.Statuses.{WritesNone}

-- the disk is that of a journal, where there is one
abbrev pub HasDisk : {D : Type 0} → Option (Journal D) → D → Type 0
HasDisk None disk = Unit {0}
HasDisk (Some journal) disk = disk ≡ disk_of journal

-- the count of a disk is not above that of a journal's, where there is one
abbrev pub BeginsBefore : {D : Type 0} → (D → ℕ) → Option (Journal D) → D → Type 0
BeginsBefore faults None disk = Unit {0}
BeginsBefore faults (Some journal) disk = faults disk ≤ count_in faults journal

-- A run over a disk, from what that was before its store was opened to what it is after the run: it begins with this
-- base and this journal, and leaves another
pub record RunsOver {D : Type 0} (disk : disks.Ghosts D) (store : Bool) (base : Base)
    (journal left : Option (Journal D)) (before after : D) : Type 0 where
  pub stored : has_journal journal ≡ store
  pub begins : IsBaseOf store (disk.reads before) base
  pub low : BeginsBefore disk.faults journal before
  pub has : HasDisk left after

-- how a run ends whose script could not be read
abbrev pub IsUnread : ReadFault → Status → Type 0
IsUnread read_faults.Failed status = status ≡ statuses.Read
IsUnread read_faults.Memory status = status ≡ statuses.Memory

-- how a run ends whose store was not opened
abbrev pub SaysUnopened : OpenFault → Status → Option (List ℕ) → Option (List ℕ) → ℕ → ℕ → Type 0
SaysUnopened opens.Disk status before now faults faults_now = WritesNone status statuses.Disk before now
SaysUnopened (opens.Damaged at) status before now faults faults_now =
    WritesLast status statuses.Damaged before now faults faults_now (damaged_text at)
SaysUnopened opens.StoreFull status before now faults faults_now = ⊥
SaysUnopened opens.Memory status before now faults faults_now = WritesNone status statuses.Memory before now
