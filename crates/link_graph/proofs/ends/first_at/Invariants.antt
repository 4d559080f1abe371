use Rattle.std.proofs.Common.{◌≡◌, length}
use Rattle.std.specs.List.{filter}
use Rattle.link_graph.specs.Inner.Ends.{has_end}
use Rattle.link_graph.proofs.ends.first_at.Given as goal

-- no link that was passed has the item at this end
abbrev pub invariant-loop-rest : goal.invariant-loop-rest
invariant-loop-rest l = filter (has_end l.end l.id.0) l.rest ≡ filter (has_end l.end l.id.0) l.links

abbrev pub decreases-loop-rest : goal.decreases-loop-rest
decreases-loop-rest l = length l.rest
