use Rattle.link_graph.proofs.Ties.{none_in}
use Rattle.link_graph.proofs.pairs.Pairs.remove.Goals as goal

pub returns : goal.returns
returns c a b = none_in _ _ a b _ _ (c.remove.ensures.updates.0 (a, b))
