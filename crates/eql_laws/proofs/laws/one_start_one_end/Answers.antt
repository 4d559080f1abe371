use Rattle.eql_laws.proofs.Ends.{one_each}
use Rattle.eql_laws.proofs.laws.one_start_one_end.Goals as goal

pub returns : goal.returns
returns c = one_each
