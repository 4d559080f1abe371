use Rattle.eql_syntax.proofs.Enclosed.{one_or_two}
use Rattle.eql_syntax.proofs.laws.brackets_hold_one_or_two.Goals as goal

pub returns : goal.returns
returns c = one_or_two
