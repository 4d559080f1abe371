use Rattle.std.proofs.Common.{◌≡◌, take}
use Rattle.std.specs.List.{filter_map}
use Rattle.requery.specs.Reach.{moved}
use Rattle.requery.proofs.reach.moved_spans.Given as goal

-- the results so far
abbrev pub invariant-loop-span : goal.invariant-loop-span
invariant-loop-span l = l.made ≡ filter_map (moved l.count l.shift) (take l.span-index l.spans)
