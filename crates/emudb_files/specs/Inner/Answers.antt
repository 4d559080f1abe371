-- Words of contracts and loops beside `specs/Answers.antt`; no promise of the program rests on them.
use Rattle.std.specs.Prelude.{◌≡◌, ℕ, List, Result, Ok, Err, ⊤}
use Rattle.emu_io.specs.declared.folder.FolderFault.{FolderFault}
use Rattle.emu_io.specs.declared.folder.FolderFault.TheVariants as folder_faults
use Rattle.store_texts.specs.declared.faults.FileFault.{FileFault}
use Rattle.store_texts.specs.declared.faults.FileFault.TheVariants as file_faults
use Rattle.store_texts.specs.declared.faults.Refused.{Refused}
use Rattle.store_texts.specs.declared.faults.Refused.TheVariants as refusals
use Rattle.store_texts.specs.declared.faults.CommandFault.{CommandFault}
use Rattle.store_texts.specs.declared.faults.CommandFault.TheVariants as faults

-- the refusal of the file or the folder of a path, unless memory ran out
abbrev pub IsRefusalOf : List ℕ → FileFault → CommandFault → Type 0
IsRefusalOf path fault (faults.Refused refused) = refused ≡ refusals.File path fault
IsRefusalOf path fault faults.Read = ⊥
IsRefusalOf path fault faults.Disk = ⊥
IsRefusalOf path fault faults.Memory = ⊤

-- a fault of a folder that was asked for a path, as that of a command
abbrev pub IsFolderFault : List ℕ → FolderFault → CommandFault → Type 0
IsFolderFault path folder_faults.Failed fault = fault ≡ faults.Read
IsFolderFault path folder_faults.Absent fault = IsRefusalOf path file_faults.Absent fault
IsFolderFault path folder_faults.TooLarge fault = IsRefusalOf path file_faults.TooLarge fault
IsFolderFault path folder_faults.Memory fault = fault ≡ faults.Memory

-- ---- steps that ask no folder

-- a step gave the answer that is wanted, unless memory ran out
abbrev pub Makes : {A : Type 0} → Result A Refused → Result A CommandFault → Type 0
Makes wanted (Ok x) = wanted ≡ Ok x
Makes wanted (Err (faults.Refused refused)) = wanted ≡ Err refused
Makes wanted (Err faults.Read) = ⊥
Makes wanted (Err faults.Disk) = ⊥
Makes wanted (Err faults.Memory) = ⊤
