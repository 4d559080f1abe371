use Rattle.level_items.proofs.Exact.{insert_exact}
use Rattle.level_items.proofs.law.insert_refuses_exactly.Goals as goal

pub returns : goal.returns
returns c = insert_exact
