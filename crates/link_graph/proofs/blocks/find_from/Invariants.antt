use Rattle.std.proofs.Common.{◌≡◌, drop}
use Rattle.std.specs.List.{list_any}
use Rattle.link_graph.specs.Inner.Blocks.{joined}
use Rattle.link_graph.specs.Link.{joins}
use Rattle.link_graph.proofs.blocks.find_from.Given as goal

-- the pair is in some block from the first one on where it is in the rest
abbrev pub invariant-loop-at : goal.invariant-loop-at
invariant-loop-at l = list_any (joins l.from l.to) (joined (drop l.at l.blocks)) ≡ list_any (joins l.from l.to) (joined (drop l.first l.blocks))
