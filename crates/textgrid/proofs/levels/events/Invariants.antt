use Rattle.std.proofs.Common.{◌≡◌, drop}
use Rattle.textgrid.specs.Levels.{events_from}
use Rattle.textgrid.specs.Inner.Levels.{items_before}
use Rattle.textgrid.proofs.levels.events.Given as goal

abbrev pub invariant-loop-index : goal.invariant-loop-index
invariant-loop-index l =
    items_before l.items (events_from l.rate l.tier l.before l.level l.index (drop l.index l.entries)) ≡ events_from l.rate l.tier l.before l.level 0 l.entries
