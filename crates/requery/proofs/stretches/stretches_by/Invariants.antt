use Rattle.std.proofs.Common.{◌≡◌, take}
use Rattle.std.specs.List.{filter_map}
use Rattle.requery.specs.Inner.Ways.{stretch_by}
use Rattle.requery.proofs.stretches.stretches_by.Given as goal

-- the stretches so far
abbrev pub invariant-loop-span : goal.invariant-loop-span
invariant-loop-span l = l.made ≡ filter_map (stretch_by l.way) (take l.span-index l.spans)
