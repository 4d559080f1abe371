-- Words of contracts and loops beside `specs/Faults.antt`; no promise of the program rests on them.
use Rattle.std.specs.Prelude.{◌≡◌, ◌≢◌, Bool, true, false, Result, Ok, Err}
use Rattle.json_view.specs.declared.faults.Shape.{Shape}
use Rattle.json_view.specs.declared.faults.ViewFault.{ViewFault}
use Rattle.json_view.specs.declared.faults.ViewFault.TheVariants as view_faults
use Rattle.script_lines.specs.declared.faults.LineFault.{LineFault}
use Rattle.script_lines.specs.declared.faults.LineFault.TheVariants as faults

-- the fault of a part of a value, as that of the line
abbrev pub as_line_fault : ViewFault → LineFault
as_line_fault (view_faults.Shape s) = faults.Shape s
as_line_fault view_faults.Memory = faults.Memory

-- the fault of a question's members, as that of the line: where the configuration has to stand, it is
-- the line's place
abbrev pub misread : Bool → ViewFault → LineFault
misread true (view_faults.Shape s) = faults.ConfigPlace
misread false (view_faults.Shape s) = faults.Shape s
misread wants view_faults.Memory = faults.Memory

-- the answer is the defined one, or memory ran out
abbrev pub Reads : {A : Type 0} → Result A LineFault → Result A LineFault → Type 0
Reads (Ok x) there = there ≡ Ok x
Reads (Err e) there = e ≢ faults.Memory → there ≡ Err e
