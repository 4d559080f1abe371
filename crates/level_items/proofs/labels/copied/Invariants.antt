use Rattle.std.proofs.Common.{◌≡◌, take}
use Rattle.level_items.proofs.labels.copied.Given as goal

-- the labels so far
abbrev pub invariant-loop-label : goal.invariant-loop-label
invariant-loop-label l = l.made ≡ take l.label-index l.labels
