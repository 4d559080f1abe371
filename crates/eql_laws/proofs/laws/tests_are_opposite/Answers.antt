use Rattle.eql_laws.proofs.Opposite.{tests_opposite}
use Rattle.eql_laws.proofs.laws.tests_are_opposite.Goals as goal

pub returns : goal.returns
returns c = tests_opposite
