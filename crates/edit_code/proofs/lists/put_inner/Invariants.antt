-- What is written and what is still to be written are all that was asked for.
use Rattle.std.proofs.Common.{◌≡◌, ◌++◌, drop}
use Rattle.byte_forms.specs.Lists.{items_code}
use Rattle.edit_code.specs.Edits.{first_key, inner_form}
use Rattle.edit_code.proofs.lists.put_inner.Given as goal

abbrev pub invariant-loop-edit : goal.invariant-loop-edit
invariant-loop-edit l =
    l.out ++ items_code (inner_form (first_key l.edits)) (drop l.edit-index l.edits)
    ≡ l.fn.out ++ items_code (inner_form (first_key l.fn.edits)) l.fn.edits
