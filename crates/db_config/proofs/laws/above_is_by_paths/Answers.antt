use Rattle.db_config.proofs.Above.{above_by_paths}
use Rattle.db_config.proofs.laws.above_is_by_paths.Goals as goal

pub returns : goal.returns
returns c = above_by_paths
