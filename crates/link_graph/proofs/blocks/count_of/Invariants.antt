use Rattle.std.proofs.Common.{◌≡◌, take, length}
use Rattle.link_graph.specs.Inner.Blocks.{joined}
use Rattle.link_graph.proofs.blocks.count_of.Given as goal

-- the links of the blocks so far
abbrev pub invariant-loop-block : goal.invariant-loop-block
invariant-loop-block l = l.total ≡ length (joined (take l.block-index l.blocks))
