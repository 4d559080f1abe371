use Rattle.std.proofs.Common.{drop}
use Rattle.link_graph.proofs.Joined.{IsBehind}
use Rattle.link_graph.proofs.blocks.link_at.Given as goal

-- the link stands so far behind the blocks that are passed
abbrev pub invariant-loop-block : goal.invariant-loop-block
invariant-loop-block l = IsBehind (drop l.block-index l.blocks) l.rest l.blocks l.place
