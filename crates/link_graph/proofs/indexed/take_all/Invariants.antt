use Rattle.link_graph.specs.Inner.Blocks.{joined}
use Rattle.link_graph.proofs.Taking.{AreLeft}
use Rattle.link_graph.proofs.indexed.take_all.Given as goal

-- the ends so far are taken out
abbrev pub invariant-loop-link : goal.invariant-loop-link
invariant-loop-link l = AreLeft l.ends (joined l.initial.blocks.items) (joined l.blocks.items) l.link-index
