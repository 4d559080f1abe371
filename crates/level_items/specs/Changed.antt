-- What becomes of the levels of a bundle where one item changes, or the rule that the change breaks first
-- there (EMU-SDMS Manual, "The emuDB format": `_annot.json`).
use Rattle.std.specs.Prelude.{ℕ, zero, suc, List, [], ◌∷◌, remove, Option}
use Rattle.std.specs.List.{slice_get}
use Rattle.std.specs.Option.{option_and_then}
use Rattle.emu_names.specs.declared.rules.Broken.{Broken}
use Rattle.level_items.specs.declared.times.Time.{Time}
use Rattle.level_items.specs.declared.items.Item.{Item}
use Rattle.level_items.specs.Levels.{Level, with_items, change_at, put_at_place}
use Rattle.level_items.specs.Faults.{insert_fault, retime_fault}

-- the level of this number changed, and all others as they are
abbrev pub change_level : (Level → Level) → ℕ → List Level → List Level
change_level change number [] = []
change_level change zero (level ∷ levels) = change level ∷ levels
change_level change (suc number) (level ∷ levels) = level ∷ change_level change number levels

-- the level with a new item at its place
abbrev pub with_item : Option ℕ → Item → Level → Level
with_item position item level =
    with_items level (put_at_place level.kind level.items position item)

-- the level without the item at this position
abbrev pub without_item : ℕ → Level → Level
without_item position level = with_items level (remove level.items position)

-- the level with the item at this position changed
abbrev pub with_changed : (Item → Item) → ℕ → Level → Level
with_changed change position level = with_items level (change_at change position level.items)

-- the rule that a new item breaks first on the level of this number
abbrev pub put_fault : ℕ → Option ℕ → Item → List Level → Option Broken
put_fault number position item levels =
    option_and_then (λ level. insert_fault level.kind level.items position item)
    (slice_get levels number)

-- the rule that another time breaks for the item at this place
abbrev pub new_time_fault : ℕ × ℕ → Time → List Level → Option Broken
new_time_fault place time levels =
    option_and_then (λ level. retime_fault level.kind level.items place.1 time)
    (slice_get levels place.0)
