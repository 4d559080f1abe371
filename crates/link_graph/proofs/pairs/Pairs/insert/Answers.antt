use Rattle.link_graph.proofs.Ties.{some_in}
use Rattle.link_graph.proofs.pairs.Pairs.insert.Goals as goal

pub returns-clause-ok : goal.returns-clause-ok
returns-clause-ok c a b = some_in _ _ a b _ _ _ (c.in_ok-insert.ensures.updates.0 (a, b))
