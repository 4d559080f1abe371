use Rattle.level_items.proofs.Exact.{retime_exact}
use Rattle.level_items.proofs.law.retime_refuses_exactly.Goals as goal

pub returns : goal.returns
returns c = retime_exact
