-- The bytes of the first edits are counted.
use Rattle.value_codes.proofs.Loops.{SizedTo}
use Rattle.edit_code.specs.Edits.{first_key, inner_form}
use Rattle.edit_code.proofs.lists.inner_size.Given as goal

abbrev pub invariant-loop-edit : goal.invariant-loop-edit
invariant-loop-edit l = SizedTo (inner_form (first_key l.edits)) l.edits l.edit-index l.size
