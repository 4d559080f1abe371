-- The statuses: their numbers, and which goes with what was written.
use Rattle.std.specs.Prelude.{◌≡◌, ◌⊎◌, ℕ, List, [], Option}
use Rattle.std.specs.Io.KnownBytes.{Appends}
use Rattle.emu_names.specs.Count.{Rose}
use Rattle.emu_io.specs.Fronts.{WritesFront}
use Rattle.program_output.specs.declared.ending.Ending.{Ending}
use Rattle.program_output.specs.declared.ending.Ending.TheVariants as endings
use Rattle.program_output.specs.declared.status.Status.{Status}
use Rattle.program_output.specs.declared.status.Status.TheVariants as statuses

-- the program's numbers of the statuses
abbrev pub code_of : Status → ℕ
code_of statuses.Fine = 0
code_of statuses.Usage = 2
code_of statuses.Script = 3
code_of statuses.Read = 4
code_of statuses.Write = 5
code_of statuses.Disk = 6
code_of statuses.Damaged = 7
code_of statuses.Memory = 8
code_of statuses.Limit = 9
code_of statuses.Refused = 10

-- a last line was written, and the run ends as it says; or a front of it, and a write failed or
-- memory ran out
abbrev pub WritesLast : Status → Status → Option (List ℕ) → Option (List ℕ) → ℕ → ℕ → List ℕ → Type 0
WritesLast result status before now faults faults_now text =
    ((result ≡ status) × Appends before now text)
    ⊎ (((result ≡ statuses.Write) × Rose faults faults_now × WritesFront before now text)
    ⊎ ((result ≡ statuses.Memory) × WritesFront before now text))

-- the text of an ending was written, and the status is its own; or a front of the text, and a write failed or memory
-- ran out; or there is no text
abbrev pub Finishes : Status → Option (List ℕ) → Option (List ℕ) → ℕ → ℕ → Ending → Type 0
Finishes status before now writes writes_now (endings.Fine text) =
    WritesLast status statuses.Fine before now writes writes_now text
Finishes status before now writes writes_now (endings.Refused text) =
    WritesLast status statuses.Refused before now writes writes_now text
Finishes status before now writes writes_now (endings.Damaged text) =
    WritesLast status statuses.Damaged before now writes writes_now text
Finishes status before now writes writes_now endings.Read = (status ≡ statuses.Read) × Appends before now []
Finishes status before now writes writes_now endings.Disk = (status ≡ statuses.Disk) × Appends before now []
Finishes status before now writes writes_now endings.Memory = (status ≡ statuses.Memory) × Appends before now []
