use Rattle.live_laws.proofs.Steps.{begins}
use Rattle.live_laws.proofs.law.lanes_begin.Goals as goal

pub returns : goal.returns
returns c = begins
