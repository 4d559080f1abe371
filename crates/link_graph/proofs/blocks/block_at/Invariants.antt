use Rattle.link_graph.proofs.Placed.{StandsBefore}
use Rattle.link_graph.proofs.blocks.block_at.Given as goal

abbrev pub invariant-loop-before : goal.invariant-loop-before
invariant-loop-before l = StandsBefore l.blocks l.place l.block l.before

abbrev pub decreases-loop-before : goal.decreases-loop-before
decreases-loop-before l = l.block
