use Rattle.eql_laws.proofs.Opposite.{queries_opposite}
use Rattle.eql_laws.proofs.laws.queries_are_opposite.Goals as goal

pub returns : goal.returns
returns c = queries_opposite
