use Rattle.link_graph.specs.Inner.Blocks.{joined}
use Rattle.link_graph.proofs.Keeping.{filter_kept}
use Rattle.link_graph.proofs.indexed.Indexed.take_pair.Goals as goal

pub invariant_of-self : goal.invariant_of-self
invariant_of-self c =
    filter_kept _ (joined c.self.inside.blocks.items) _ _ _ c.self.invariant c.take_found.ensures (c.remove.ensures _ c.self.invariant.indexed)
