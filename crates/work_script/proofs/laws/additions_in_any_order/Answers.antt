use Rattle.work_script.proofs.Additions.{additions_in_any_order}
use Rattle.work_script.proofs.laws.additions_in_any_order.Goals as goal

pub returns : goal.returns
returns c = additions_in_any_order
