-- The bytes of the first elements are counted.
use Rattle.value_codes.proofs.Loops.{SizedTo}
use Rattle.value_codes.proofs.lists.list_size.Given as goal

abbrev pub invariant-loop-item : goal.invariant-loop-item
invariant-loop-item g l = SizedTo g.T.Coded.form l.items l.item-index l.size
