-- Words of contracts and loops beside `specs/Folders.antt`; no promise of the program rests on them.
use Rattle.std.specs.Prelude.{ℕ}
use Rattle.std.specs.Prelude.{Result, Ok, Err}
use Rattle.emu_names.specs.Inner.Count.{next_count}
use Rattle.emu_io.specs.declared.folder.FolderFault.{FolderFault}
use Rattle.emu_io.specs.declared.folder.FolderFault.TheVariants.{Failed, Absent, TooLarge, Memory}

-- the count of faults after an answer
abbrev pub faults_after : {A : Type 0} → ℕ → Result A FolderFault → ℕ
faults_after n (Ok x) = n
faults_after n (Err Failed) = next_count n
faults_after n (Err Absent) = n
faults_after n (Err TooLarge) = n
faults_after n (Err Memory) = n

-- the count of misses after an answer
abbrev pub misses_after : {A : Type 0} → ℕ → Result A FolderFault → ℕ
misses_after n (Ok x) = n
misses_after n (Err Failed) = n
misses_after n (Err Absent) = next_count n
misses_after n (Err TooLarge) = next_count n
misses_after n (Err Memory) = n
