use Rattle.std.proofs.Common.{rules}
use Rattle.link_graph.proofs.Clones.{elements_same}
use Rattle.link_graph.proofs.by_item.ByItem.copy.Goals as goal

pub returns : goal.returns
returns c id =
    elements_same _ _ id c.args.self.now.lists.entries c.in_ok-lists.lists.entries c.in_ok-lists.ensures.cases (λ x y k. search rules) (λ v w k. k)
