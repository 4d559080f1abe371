use Rattle.edit_rules.proofs.Replay.{replay_goes_on}
use Rattle.edit_rules.proofs.laws.replay_goes_on.Goals as goal

pub returns : goal.returns
returns c = replay_goes_on
