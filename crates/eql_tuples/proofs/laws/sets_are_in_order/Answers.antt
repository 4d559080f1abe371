use Rattle.eql_tuples.proofs.Members.{once_sorted}
use Rattle.eql_tuples.proofs.laws.sets_are_in_order.Goals as goal

pub returns : goal.returns
returns c = once_sorted
