use Rattle.eql_tuples.proofs.Members.{has_once}
use Rattle.eql_tuples.proofs.laws.sets_have_their_tuples.Goals as goal

pub returns : goal.returns
returns c = has_once
