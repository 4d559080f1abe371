use Rattle.std.proofs.Common.{◌≡◌, ◌+◌, length, take, drop}
use Rattle.std.specs.List.{filter}
use Rattle.link_graph.specs.Inner.Blocks.{joined}
use Rattle.link_graph.specs.Inner.Ends.{has_end}
use Rattle.link_graph.proofs.blocks.count_before.Given as goal

-- the links of the blocks so far are counted
abbrev pub invariant-loop-block : goal.invariant-loop-block
invariant-loop-block l =
    l.total + length (filter (has_end l.end l.id.0) (take l.rest (joined (drop l.block-index l.blocks))))
    ≡ length (filter (has_end l.end l.id.0) (take l.place (joined l.blocks)))
