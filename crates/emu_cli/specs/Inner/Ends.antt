-- Words of contracts and loops beside `specs/Ends.antt`; no promise of the program rests on them.
use Rattle.std.specs.Prelude.{◌≡◌, ◌⊎◌, ℕ, List, Result, Ok, Err}
use Rattle.script_runs.specs.book_opening.declared.fault.OpenFault.{OpenFault}
use Rattle.script_runs.specs.book_opening.declared.fault.OpenFault.TheVariants as open_faults
use Rattle.emudb_files.specs.store_texts.declared.faults.CommandFault.{CommandFault}
use Rattle.emudb_files.specs.store_texts.declared.faults.CommandFault.TheVariants as faults
use Rattle.emudb_files.specs.store_texts.Texts.{damaged_text, done_text}
use Rattle.script_runs.specs.program_output.declared.ending.Ending.{Ending}
use Rattle.script_runs.specs.program_output.declared.ending.Ending.TheVariants.{Damaged as IsDamaged, Disk as NoDisk, Memory as OutOfMemory}

-- the end of a command whose store was not opened for this reason
abbrev pub IsOpenEnd : OpenFault → Ending → Type 0
IsOpenEnd open_faults.Disk ending = ending ≡ NoDisk
IsOpenEnd (open_faults.Damaged at) ending =
    (ending ≡ IsDamaged (damaged_text at)) ⊎ (ending ≡ OutOfMemory)
IsOpenEnd open_faults.StoreFull ending = ⊥
IsOpenEnd open_faults.Memory ending = ending ≡ OutOfMemory

-- the text of such a command, if memory holds it
abbrev pub TellsDone : List ℕ → Result ℕ CommandFault → Result (List ℕ) CommandFault → Type 0
TellsDone word (Ok n) (Ok text) = text ≡ done_text n word
TellsDone word (Ok n) (Err fault) = fault ≡ faults.Memory
TellsDone word (Err fault) result = result ≡ Err fault
