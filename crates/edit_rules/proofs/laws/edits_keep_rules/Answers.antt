use Rattle.edit_rules.proofs.Stays.{edits_keep_rules}
use Rattle.edit_rules.proofs.laws.edits_keep_rules.Goals as goal

pub returns : goal.returns
returns c = edits_keep_rules
