use Rattle.session_core.proofs.Ordered.{in_order_is_legal}
use Rattle.session_core.proofs.law.in_order_is_legal.Goals as goal

pub returns : goal.returns
returns c = record { legal = in_order_is_legal }
