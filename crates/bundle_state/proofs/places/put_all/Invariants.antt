use Rattle.std.proofs.Common.{◌≡◌, ℕ, nat_eq, take}
use Rattle.std.specs.List.{list_any}
use Rattle.std.specs.Option.{option_or}
use Rattle.level_items.specs.Levels.{ids_of}
use Rattle.bundle_state.specs.Inner.Placed.{level_in}
use Rattle.bundle_state.proofs.IdLevels.{level_if}
use Rattle.bundle_state.proofs.places.put_all.Given as goal

abbrev pub invariant-loop-item : goal.invariant-loop-item
invariant-loop-item l =
    (q : ℕ) → level_in l.map q
    ≡ option_or (level_in l.initial.map q) (level_if (list_any (nat_eq q) (ids_of (take l.item-index l.items))) l.level)
