use Rattle.eql_laws.proofs.Checkable.{zero_none}
use Rattle.eql_laws.proofs.laws.zero_is_none.Goals as goal

pub returns : goal.returns
returns c = zero_none
