use Rattle.config_additions.proofs.Grown.{level_valid, attribute_valid, definition_valid}
use Rattle.config_additions.proofs.laws.additions_keep_rules.Goals as goal

pub returns : goal.returns
returns c = record { levels = level_valid; attributes = attribute_valid; definitions = definition_valid }
