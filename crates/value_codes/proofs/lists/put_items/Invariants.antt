-- What is written and what is still to be written are all that was asked for.
use Rattle.std.proofs.Common.{◌≡◌, ◌++◌, drop}
use Rattle.byte_forms.specs.Lists.{items_code}
use Rattle.value_codes.proofs.lists.put_items.Given as goal

abbrev pub invariant-loop-item : goal.invariant-loop-item
invariant-loop-item g l =
    l.out ++ items_code g.T.Coded.form (drop l.item-index l.items) ≡ l.fn.out ++ items_code g.T.Coded.form l.fn.items
