use Rattle.live_laws.proofs.Steps.{takes_step}
use Rattle.live_laws.proofs.law.lanes_take_steps.Goals as goal

pub returns : goal.returns
returns c = takes_step
