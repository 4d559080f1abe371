use Rattle.eql_syntax.proofs.Enclosed.{nothing_changes}
use Rattle.eql_syntax.proofs.laws.brackets_change_nothing.Goals as goal

pub returns : goal.returns
returns c = nothing_changes
