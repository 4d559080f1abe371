use Rattle.edit_rules.proofs.Turns.{all_or_nothing}
use Rattle.edit_rules.proofs.laws.acts_are_whole.Goals as goal

pub returns : goal.returns
returns c = all_or_nothing
