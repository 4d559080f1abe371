use Rattle.std.proofs.Common.{ap}
use Rattle.link_graph.specs.Inner.Blocks.{joined}
use Rattle.link_graph.proofs.Keeping.{none_kept}
use Rattle.link_graph.proofs.indexed.Indexed.with_capacity.Goals as goal

pub invariant_of-result : goal.invariant_of-result
invariant_of-result c = none_kept _ _ (ap joined c.new-blocks.ensures.items) c.in_ok-index.ensures
