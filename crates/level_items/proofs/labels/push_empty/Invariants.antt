use Rattle.std.proofs.Common.{◌≡◌, ◌++◌, [], replicate}
use Rattle.level_items.proofs.labels.push_empty.Given as goal

-- the empty labels so far
abbrev pub invariant-loop-place : goal.invariant-loop-place
invariant-loop-place l = l.labels ≡ l.initial.labels ++ replicate l._place []
