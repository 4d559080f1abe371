use Rattle.config_laws.proofs.Made.{levels_make, attributes_make, definitions_make}
use Rattle.config_laws.proofs.laws.additions_make_configurations.Goals as goal

pub returns : goal.returns
returns c = record {
  levels = levels_make;
  attributes = attributes_make;
  definitions = definitions_make;
}
