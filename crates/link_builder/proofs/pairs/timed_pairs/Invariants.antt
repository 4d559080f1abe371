use Rattle.std.proofs.Common.{◌≡◌, ◌+◌, ◌-◌, ◌++◌, length, drop}
use Rattle.link_builder.specs.Timed.{timed_pairs}
use Rattle.link_builder.proofs.pairs.timed_pairs.Given as goal

-- the pairs so far, with those of the segments and the items that are left
abbrev pub invariant-loop-place : goal.invariant-loop-place
invariant-loop-place l = l.pairs ++ timed_pairs (drop l.place l.upper.items) (drop l.at l.lower.items) ≡ timed_pairs l.upper.items l.lower.items

-- each step leaves a segment or an item behind
abbrev pub decreases-loop-place : goal.decreases-loop-place
decreases-loop-place l = (length l.upper.items - l.place) + (length l.lower.items - l.at)
