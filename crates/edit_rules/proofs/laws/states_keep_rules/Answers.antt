use Rattle.edit_rules.proofs.Replay.{states_keep_rules}
use Rattle.edit_rules.proofs.laws.states_keep_rules.Goals as goal

pub returns : goal.returns
returns c = states_keep_rules
