use Rattle.std.proofs.Common.{◌≡◌, map, take}
use Rattle.bundle_state.specs.Made.{made_item}
use Rattle.bundle_state.proofs.given_levels.made_items.Given as goal

abbrev pub invariant-loop-item : goal.invariant-loop-item
invariant-loop-item l = l.made.items ≡ map (made_item l.defs) (take l.item-index l.items)
