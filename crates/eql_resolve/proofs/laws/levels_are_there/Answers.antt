use Rattle.eql_resolve.proofs.Kept.{level_within, result_within}
use Rattle.eql_resolve.proofs.laws.levels_are_there.Goals as goal

pub returns : goal.returns
returns c = λ config q is. (level_within config q is, result_within config q is)
