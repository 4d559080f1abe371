use Rattle.config_additions.proofs.Grown.{level_extends, attribute_extends, definition_extends}
use Rattle.config_additions.proofs.laws.additions_extend.Goals as goal

pub returns : goal.returns
returns c = record { levels = level_extends; attributes = attribute_extends; definitions = definition_extends }
