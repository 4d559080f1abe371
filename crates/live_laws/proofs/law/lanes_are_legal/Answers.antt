use Rattle.live_laws.proofs.Joined.{lanes_legal}
use Rattle.live_laws.proofs.law.lanes_are_legal.Goals as goal

pub returns : goal.returns
returns c = lanes_legal
