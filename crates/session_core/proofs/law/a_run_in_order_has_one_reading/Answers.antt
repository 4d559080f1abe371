use Rattle.session_core.proofs.Ordered.{in_turn_is_in_order}
use Rattle.session_core.proofs.Readings.{replies_follow, one_reading}
use Rattle.session_core.proofs.law.a_run_in_order_has_one_reading.Goals as goal

pub returns : goal.returns
returns c = record { follows = replies_follow; once = one_reading; in_turn = in_turn_is_in_order }
