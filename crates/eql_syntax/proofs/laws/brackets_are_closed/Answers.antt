use Rattle.eql_syntax.proofs.Enclosed.{are_closed}
use Rattle.eql_syntax.proofs.laws.brackets_are_closed.Goals as goal

pub returns : goal.returns
returns c = are_closed
