use Rattle.eql_tuples.proofs.Members.{joined_has}
use Rattle.eql_tuples.proofs.laws.joins_are_pairs.Goals as goal

pub returns : goal.returns
returns c = joined_has
