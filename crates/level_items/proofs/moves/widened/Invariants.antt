use Rattle.std.proofs.Common.{◌≡◌, map, take}
use Rattle.level_items.specs.Levels.{widened_item}
use Rattle.level_items.proofs.moves.widened.Given as goal

-- the items so far have their labels
abbrev pub invariant-loop-item : goal.invariant-loop-item
invariant-loop-item l = l.made.items ≡ map (widened_item l.attributes) (take l.item-index l.items)
