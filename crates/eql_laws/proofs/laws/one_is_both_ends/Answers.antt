use Rattle.eql_laws.proofs.Ends.{one_both}
use Rattle.eql_laws.proofs.laws.one_is_both_ends.Goals as goal

pub returns : goal.returns
returns c = one_both
