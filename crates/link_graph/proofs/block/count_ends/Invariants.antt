use Rattle.std.proofs.Common.{◌≡◌, ◌≤◌, length, take}
use Rattle.std.specs.List.{filter}
use Rattle.link_graph.specs.Inner.Ends.{has_end}
use Rattle.link_graph.proofs.block.count_ends.Given as goal

-- the links so far are counted, and they are no more than there are
abbrev pub invariant-loop-at : goal.invariant-loop-at
invariant-loop-at l = record {
  count : l.count ≡ length (filter (has_end l.end l.id.0) (take l.at l.links));
  few : l.count ≤ l.at;
}
