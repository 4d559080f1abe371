use Rattle.edit_rules.proofs.Turns.{acts_keep_rules}
use Rattle.edit_rules.proofs.laws.acts_keep_rules.Goals as goal

pub returns : goal.returns
returns c = acts_keep_rules
