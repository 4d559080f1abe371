use Rattle.db_config.proofs.Doubles.{doubles_found}
use Rattle.db_config.proofs.laws.doubles_are_found.Goals as goal

pub returns : goal.returns
returns c = doubles_found
