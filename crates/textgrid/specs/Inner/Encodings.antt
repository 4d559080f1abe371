-- Words of contracts and loops beside `specs/Encodings.antt`; no promise of the program rests on them.
use Rattle.std.specs.Prelude.{ℕ, ◌+◌, ◌-◌, List, ◌++◌, Result, Ok, Err}
use Rattle.textgrid.specs.declared.fault.GridFault.{GridFault}

-- text that was read, in front of more
abbrev pub with_text : List ℕ → Result (List ℕ) GridFault → Result (List ℕ) GridFault
with_text before (Ok text) = Ok (before ++ text)
with_text before (Err fault) = Err fault
