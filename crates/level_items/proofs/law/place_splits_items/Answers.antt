use Rattle.level_items.proofs.Exact.{place_splits}
use Rattle.level_items.proofs.law.place_splits_items.Goals as goal

pub returns : goal.returns
returns c = place_splits
