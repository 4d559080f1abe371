use Rattle.std.proofs.Common.{◌≡◌, take}
use Rattle.link_graph.proofs.blocks.copied.Given as goal

-- the blocks so far are copied
abbrev pub invariant-loop-block : goal.invariant-loop-block
invariant-loop-block l = l.made.items ≡ take l.block-index l.blocks
