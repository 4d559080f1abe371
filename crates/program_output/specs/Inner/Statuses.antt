-- Words of contracts and loops beside `specs/Statuses.antt`; no promise of the program rests on them.
use Rattle.std.specs.Prelude.{◌≡◌, ℕ, List, Option, Result, Ok, Err}
use Rattle.program_output.specs.declared.ended.Ended.{Ended}
use Rattle.program_output.specs.declared.ended.Ended.TheVariants as ends
use Rattle.program_output.specs.declared.status.Status.{Status}
use Rattle.program_output.specs.declared.status.Status.TheVariants as statuses
use Rattle.program_output.specs.Texts.{fault_text, limit_text}
use Rattle.program_output.specs.Statuses.{WritesLast}

-- nothing was written, and the run ends so
abbrev pub WritesNone : Status → Status → Option (List ℕ) → Option (List ℕ) → Type 0
WritesNone result status before now = (result ≡ status) × (now ≡ before)

-- how a run is closed that ended so: with its last line, or silently
abbrev pub Closes : {A : Type 0} → Result A Ended → Status → Option (List ℕ) → Option (List ℕ) → ℕ → ℕ → Type 0
Closes (Ok x) status before now faults faults_now = WritesNone status statuses.Fine before now
Closes (Err ends.Limit) status before now faults faults_now =
    WritesLast status statuses.Limit before now faults faults_now limit_text
Closes (Err (ends.AtFault number fault)) status before now faults faults_now =
    WritesLast status statuses.Script before now faults faults_now (fault_text number fault)
Closes (Err ends.NoRoom) status before now faults faults_now =
    WritesLast status statuses.Limit before now faults faults_now limit_text
Closes (Err ends.Disk) status before now faults faults_now = WritesNone status statuses.Disk before now
Closes (Err ends.Write) status before now faults faults_now = WritesNone status statuses.Write before now
Closes (Err ends.Memory) status before now faults faults_now = WritesNone status statuses.Memory before now
