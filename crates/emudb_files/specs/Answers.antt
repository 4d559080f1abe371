-- What `import` and `load` answer, and why.
use Rattle.std.specs.Prelude.{◌≡◌, ℕ, ◌≤◌, List, Option, Some, Result, Ok, Err, IsErrOf, ⊤}
use Rattle.emu_names.specs.Count.{Rose}
use Rattle.emu_io.specs.declared.tree.Stored.{Stored}
use Rattle.store_texts.specs.session_core.declared.line.Refusal.TheVariants as requests
use Rattle.store_texts.specs.session_core.declared.line.Command.TheVariants as commands
use Rattle.store_texts.specs.session_core.Answers.{rule_refusal}
use Rattle.store_texts.specs.edit_rules.declared.commit_fault.EditFault.{EditFault}
use Rattle.store_texts.specs.edit_rules.declared.commit_fault.EditFault.TheVariants as edit_faults
use Rattle.book_opening.specs.declared.fault.OpenFault.{OpenFault}
use Rattle.book_opening.specs.declared.fault.OpenFault.TheVariants as open_faults
use Rattle.store_texts.specs.declared.faults.FileFault.TheVariants as file_faults
use Rattle.store_texts.specs.declared.faults.Refused.{Refused}
use Rattle.store_texts.specs.declared.faults.Refused.TheVariants as refusals
use Rattle.store_texts.specs.declared.faults.CommandFault.{CommandFault}
use Rattle.store_texts.specs.declared.faults.CommandFault.TheVariants as faults

-- P is said of the content of a folder, where it tells it
abbrev pub Told : Option (List Stored) → (List Stored → Type 0) → Type 0
Told told P = (content : List Stored) → told ≡ Some content → P content

-- a reading gave the answer that is wanted, unless a call on the outside failed or memory ran out
abbrev pub Gives : {A : Type 0} → Result A Refused → Result A CommandFault → Type 0
Gives wanted (Ok x) = wanted ≡ Ok x
Gives wanted (Err (faults.Refused refused)) = wanted ≡ Err refused
Gives wanted (Err faults.Read) = ⊤
Gives wanted (Err faults.Disk) = ⊤
Gives wanted (Err faults.Memory) = ⊤

-- where the content is told, a reading gave the answer that it wants; in any case it gave no fault of a disk
pub record Reads {A : Type 0} (told : Option (List Stored)) (wanted : List Stored → Result A Refused)
    (result : Result A CommandFault) : Type 0 where
  pub given : Told told (λ content. Gives (wanted content) result)
  pub no_disk : IsErrOf result faults.Disk → ⊥

-- a refusal of an edit, as that of a command
abbrev pub edit_fault : EditFault → CommandFault
edit_fault (edit_faults.HistoryFull n) = faults.Refused (refusals.Request requests.HistoryFull)
edit_fault (edit_faults.Broken breach n) = faults.Refused (refusals.Request (rule_refusal commands.AddBundle breach))
edit_fault (edit_faults.StoreFull n) = faults.Refused (refusals.Request requests.StoreFull)
edit_fault edit_faults.Disk = faults.Disk
edit_fault edit_faults.Memory = faults.Memory

-- the answer to an edit, as that of a command
abbrev pub edit_answer : Result ℕ EditFault → Result ℕ CommandFault
edit_answer (Ok n) = Ok n
edit_answer (Err fault) = Err (edit_fault fault)

-- Why no book was made of a configuration, as the fault of a command. A new book is never refused as damaged.
abbrev pub open_fault : OpenFault → CommandFault
open_fault open_faults.Disk = faults.Disk
open_fault (open_faults.Damaged at) = faults.Memory
open_fault open_faults.StoreFull = faults.Refused (refusals.Request requests.StoreFull)
open_fault open_faults.Memory = faults.Memory

-- P is said where a file or a folder is not there or too large
abbrev pub OnMiss : {A : Type 0} → Result A CommandFault → Type 0 → Type 0
OnMiss (Err (faults.Refused (refusals.File path file_faults.Absent))) P = P
OnMiss (Err (faults.Refused (refusals.File path file_faults.TooLarge))) P = P
OnMiss _ P = ⊤

-- Of a folder the counts never fall. `Read` comes only where the count of faults rose, `Absent` and `TooLarge` only where
-- that of misses rose
pub record HasReadCause {A : Type 0} (faults_before faults_now misses_before misses_now : ℕ)
    (result : Result A CommandFault) : Type 0 where
  pub later_faults : faults_before ≤ faults_now
  pub later_misses : misses_before ≤ misses_now
  pub read : IsErrOf result faults.Read → Rose faults_before faults_now
  pub missed : OnMiss result (Rose misses_before misses_now)

-- of a disk the count never falls, and `Disk` comes only where it rose
pub record HasDiskCause {A : Type 0} (before now : ℕ) (result : Result A CommandFault) : Type 0 where
  pub later : before ≤ now
  pub failed : IsErrOf result faults.Disk → Rose before now
