-- Words of contracts beside `specs/Inverse.antt`; no promise of the program rests on them.
use Rattle.std.specs.Prelude.{◌+◌, List, ◌++◌, length, reverse, nat_le, Option, Some, None, Result, Ok, Err, if◌then◌else◌}
use Rattle.emu_names.specs.Inner.Gives.{AnswersAs}
use Rattle.emu_names.specs.declared.limits.TheConstants.{LIST_EDITS}
use Rattle.bundle_edits.specs.declared.edit.Edit.{Edit}
use Rattle.edit_undo.specs.declared.faults.NoUndo.{NoUndo}
use Rattle.edit_undo.specs.declared.faults.NoUndo.TheVariants as missing
use Rattle.edit_undo.specs.declared.faults.InverseFault.{InverseFault}
use Rattle.edit_undo.specs.declared.faults.InverseFault.TheVariants as faults

-- why there is no inverse, where that is the fault
abbrev pub no_undo_of : InverseFault → Option NoUndo
no_undo_of (faults.NoUndo why) = Some why
no_undo_of faults.Memory = None

-- an answer without memory says nothing, every other one is the definition's
abbrev pub GivesInverse : {A : Type 0} → Result A InverseFault → Result A NoUndo → Type 0
GivesInverse = AnswersAs no_undo_of

-- these edits in the reverse order, unless they are too many
abbrev pub few_reversed : List Edit → Result (List Edit) NoUndo
few_reversed es = if nat_le (length es) LIST_EDITS then Ok (reverse es) else Err missing.TooManyEdits

-- edits put behind others in the reverse order, unless they are too many with them
abbrev pub if_room : List Edit → List Edit → Result (List Edit) NoUndo
if_room made group =
    if nat_le (length made + length group) LIST_EDITS then Ok (made ++ reverse group) else Err missing.TooManyEdits
