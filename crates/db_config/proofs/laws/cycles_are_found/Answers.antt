use Rattle.db_config.proofs.Above.{cycles_found}
use Rattle.db_config.proofs.laws.cycles_are_found.Goals as goal

pub returns : goal.returns
returns c = cycles_found
