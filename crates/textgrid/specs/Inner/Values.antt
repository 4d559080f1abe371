-- Words of contracts and loops beside `specs/Values.antt`; no promise of the program rests on them.
use Rattle.std.specs.Prelude.{◌+◌, ◌-◌, List, ◌++◌, Result, Ok, Err}
use Rattle.textgrid.specs.declared.fault.GridFault.{GridFault}
use Rattle.textgrid.specs.declared.values.Placed.{Placed}

-- values that were read, in front of others
abbrev pub joined : List Placed → Result (List Placed) GridFault → Result (List Placed) GridFault
joined before (Ok values) = Ok (before ++ values)
joined before (Err fault) = Err fault
