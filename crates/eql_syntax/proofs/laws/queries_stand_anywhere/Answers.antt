use Rattle.eql_syntax.proofs.Enclosed.{anywhere}
use Rattle.eql_syntax.proofs.laws.queries_stand_anywhere.Goals as goal

pub returns : goal.returns
returns c = anywhere
