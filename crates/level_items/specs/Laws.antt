-- What the rules of changes come to, each said by itself.
use Rattle.std.specs.Prelude.{◌≡◌, ◌≢◌, ℕ, not, ◌↔◌, List, length, take, drop, IsTrue, Option, Some, None}
use Rattle.std.specs.List.{filter, slice_get}
use Rattle.emu_names.specs.declared.kinds.LevelKind.{LevelKind}
use Rattle.emu_names.specs.declared.kinds.LevelKind.TheVariants as kinds
use Rattle.level_items.specs.declared.times.Time.{Time}
use Rattle.level_items.specs.declared.items.Item.{Item}
use Rattle.level_items.specs.Times.{starts_before}
use Rattle.level_items.specs.Levels.{level_of, KeepsLevelRule, are_labels_for, are_in_order, new_place, put_at_place, change_at, retimed}
use Rattle.level_items.specs.Faults.{position_fault, insert_fault, retime_fault}

-- a new item with whole labels is taken exactly where its position may be asked for and the level
-- keeps the level rule with it
abbrev pub InsertRefusesExactly : Type 0
InsertRefusesExactly =
    (kind : LevelKind) (attributes : ℕ) (items : List Item) (position : Option ℕ) (item : Item) →
    KeepsLevelRule (level_of kind attributes items) →
    IsTrue (are_labels_for attributes item.labels) →
    insert_fault kind items position item ≡ None
    ↔ (position_fault kind (length items) position ≡ None)
    × KeepsLevelRule (level_of kind attributes (put_at_place kind items position item))

-- another time of an item is taken exactly where the level keeps the level rule with it
abbrev pub RetimeRefusesExactly : Type 0
RetimeRefusesExactly =
    (kind : LevelKind) (attributes : ℕ) (items : List Item)
    (position : ℕ) (item : Item) (time : Time) →
    KeepsLevelRule (level_of kind attributes items) →
    slice_get items position ≡ Some item →
    retime_fault kind items position time ≡ None
    ↔ KeepsLevelRule (level_of kind attributes (change_at (retimed time) position items))

-- before the place of a new segment or point are the items that begin before it, from there on the
-- others
abbrev pub PlaceSplitsItems : Type 0
PlaceSplitsItems =
    (kind : LevelKind) (items : List Item) (position : Option ℕ) (time : Time) →
    kind ≢ kinds.Item →
    IsTrue (are_in_order kind items) →
    (take (new_place kind items position time) items
    ≡ filter (λ i. starts_before i.time time) items)
    × (drop (new_place kind items position time) items
    ≡ filter (λ i. not (starts_before i.time time)) items)
