use Rattle.eql_laws.proofs.Terms.{order_free}
use Rattle.eql_laws.proofs.laws.order_is_free.Goals as goal

pub returns : goal.returns
returns c = order_free
