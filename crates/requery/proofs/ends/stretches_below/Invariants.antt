use Rattle.std.proofs.Common.{◌≡◌, map, take}
use Rattle.requery.specs.Inner.Ways.{row_stretch}
use Rattle.requery.proofs.ends.stretches_below.Given as goal

-- the stretches so far
abbrev pub invariant-loop-item : goal.invariant-loop-item
invariant-loop-item l = l.made.items ≡ map row_stretch (take l.item l.down)
