-- A level of a bundle, and the rule that it keeps (EMU-SDMS Manual, "The emuDB format": levels and
-- items of an annotation; that gaps between segments are allowed is this project's choice).
use Rattle.std.specs.Prelude.{ℕ, ◌-◌, Bool, true, ◌&&◌, not, List, [], ◌∷◌, ◌++◌, length, map, replicate, nat_eq, nat_le, ◌==◌, IsTrue, Option, Some, None, zero, suc, slice_set, insert, count_by, unwrap_or}
use Rattle.std.specs.List.{list_all, list_any, slice_get}
use Rattle.std.specs.Option.{option_map_or}
use Rattle.emu_names.specs.declared.limits.TheConstants.{LABEL_BYTES}
use Rattle.emu_names.specs.declared.kinds.LevelKind.{LevelKind}
use Rattle.emu_names.specs.declared.kinds.LevelKind.TheVariants as kinds
use Rattle.level_items.specs.declared.times.Time.{Time}
use Rattle.level_items.specs.declared.items.Item.{Item}
use Rattle.level_items.specs.Times.{fits_kind, ends_in_time, is_before, starts_before}

-- the kind of a level, how many attributes it has, and its items in order
pub record Level : Type 0 where
  pub kind : LevelKind
  pub attributes : ℕ
  pub items : List Item

-- a level of these parts
abbrev pub level_of : LevelKind → ℕ → List Item → Level
level_of kind attributes items = record { kind = kind; attributes = attributes; items = items }

-- the level with other items
abbrev pub with_items : Level → List Item → Level
with_items level items = level_of level.kind level.attributes items

-- the items of a level, by its number among these; none where there is no such level
abbrev pub items_at : List Level → ℕ → List Item
items_at levels number = option_map_or (λ level. level.items) (slice_get levels number) []

-- the label of an item for an attribute of its level, by the attribute's number
abbrev pub label_of : ℕ → Item → List ℕ
label_of attribute item = unwrap_or (slice_get item.labels attribute) []

-- the ids of items, in order
abbrev pub ids_of : List Item → List ℕ
ids_of items = map (λ i. i.id.0) items

-- no number stands twice
abbrev pub are_different : List ℕ → Bool
are_different [] = true
are_different (n ∷ ns) = not (list_any (nat_eq n) ns) && are_different ns

-- a label of at most 4,096 bytes
abbrev pub is_short : List ℕ → Bool
is_short label = nat_le (length label) LABEL_BYTES

-- one label for each attribute, each of at most 4,096 bytes
abbrev pub are_labels_for : ℕ → List (List ℕ) → Bool
are_labels_for attributes labels = (length labels == attributes) && list_all is_short labels

-- the time has the form of the level's kind and ends below sample 2^40; the labels are whole
abbrev pub fits_level : LevelKind → ℕ → Item → Bool
fits_level kind attributes item =
    fits_kind kind item.time && ends_in_time item.time && are_labels_for attributes item.labels

-- the time is over before that of the first of these items begins
abbrev pub is_before_first : Time → List Item → Bool
is_before_first time [] = true
is_before_first time (next ∷ items) = is_before time next.time

-- each item is over before the next one begins
abbrev pub are_apart : List Item → Bool
are_apart [] = true
are_apart (item ∷ items) = is_before_first item.time items && are_apart items

-- segments and points stand in the order of their times, items without time in any
abbrev pub are_in_order : LevelKind → List Item → Bool
are_in_order kinds.Item items = true
are_in_order kinds.Segment items = are_apart items
are_in_order kinds.Event items = are_apart items

-- the level rule
pub record KeepsLevelRule (level : Level) : Type 0 where
  pub distinct : IsTrue (are_different (ids_of level.items))
  pub fitting : IsTrue (list_all (fits_level level.kind level.attributes) level.items)
  pub ordered : IsTrue (are_in_order level.kind level.items)

-- the first of these items
abbrev pub first_of : List Item → Option Item
first_of [] = None
first_of (item ∷ items) = Some item

-- the last of these items
abbrev pub last_of : List Item → Option Item
last_of [] = None
last_of (item ∷ []) = Some item
last_of (item ∷ next ∷ items) = last_of (next ∷ items)

-- where a new item goes: without time at the place that is asked for, else last; with a time behind
-- all items that begin before it
abbrev pub new_place : LevelKind → List Item → Option ℕ → Time → ℕ
new_place kinds.Item items position time = unwrap_or position (length items)
new_place kinds.Segment items position time = count_by (λ i. starts_before i.time time) items
new_place kinds.Event items position time = count_by (λ i. starts_before i.time time) items

-- the items with a new one at its place
abbrev pub put_at_place : LevelKind → List Item → Option ℕ → Item → List Item
put_at_place kind items position item = insert items (new_place kind items position item.time) item

-- the item with another time
abbrev pub retimed : Time → Item → Item
retimed time item = record { id = item.id; time = time; labels = item.labels }

-- the item with another label at this place of its labels
abbrev pub relabelled : ℕ → List ℕ → Item → Item
relabelled attribute label item =
    record { id = item.id; time = item.time; labels = slice_set item.labels attribute label }

-- the labels with empty ones behind, up to so many in all
abbrev pub padded : ℕ → List (List ℕ) → List (List ℕ)
padded count labels = labels ++ replicate (count - length labels) []

-- the item on a level of so many attributes, with an empty label for each that it lacks
abbrev pub widened_item : ℕ → Item → Item
widened_item attributes item =
    record { id = item.id; time = item.time; labels = padded attributes item.labels }

-- the level with more attributes, for which its items have empty labels
abbrev pub widened : ℕ → Level → Level
widened attributes level =
    level_of level.kind attributes (map (widened_item attributes) level.items)

-- the item at this position changed, and all others as they are
abbrev pub change_at : (Item → Item) → ℕ → List Item → List Item
change_at change position [] = []
change_at change zero (item ∷ items) = change item ∷ items
change_at change (suc position) (item ∷ items) = item ∷ change_at change position items
