use Rattle.live_laws.proofs.Steps.{sees_more}
use Rattle.live_laws.proofs.law.lanes_see_more.Goals as goal

pub returns : goal.returns
returns c = sees_more
