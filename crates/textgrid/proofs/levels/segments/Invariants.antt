use Rattle.std.proofs.Common.{◌≡◌, drop}
use Rattle.textgrid.specs.Levels.{segments_from}
use Rattle.textgrid.specs.Inner.Levels.{items_before}
use Rattle.textgrid.proofs.levels.segments.Given as goal

abbrev pub invariant-loop-index : goal.invariant-loop-index
invariant-loop-index l =
    items_before l.items (segments_from l.rate l.tier l.before l.level l.index (drop l.index l.entries)) ≡ segments_from l.rate l.tier l.before l.level 0 l.entries
