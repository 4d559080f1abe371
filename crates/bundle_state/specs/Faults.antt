-- The rule that the levels of an annotation break first, in the order in which the annotation is read
-- (EMU-SDMS Manual, "The emuDB format": `_annot.json`). Times, and how they lie behind one another, are
-- tested by the rules of level lists.
use Rattle.std.specs.Prelude.{ℕ, Bool, true, false, ◌&&◌, not, List, [], ◌∷◌, ◌++◌, length, map, sum_by, Option, Some, None, nat_le, nat_lt, nat_eq, if◌then◌else◌}
use Rattle.std.specs.List.{list_any}
use Rattle.emu_names.specs.declared.limits.TheConstants.{LABEL_BYTES, BUNDLE_ITEMS, TOP_RATE}
use Rattle.emu_names.specs.declared.kinds.LevelKind.{LevelKind}
use Rattle.emu_names.specs.declared.kinds.LevelKind.TheVariants as kinds
use Rattle.emu_names.specs.declared.rules.Broken.{Broken}
use Rattle.emu_names.specs.declared.rules.Broken.TheVariants as rules
use Rattle.emu_names.specs.declared.rules.What.TheVariants as counted
use Rattle.level_items.specs.declared.annot.AnnotLabel.{AnnotLabel}
use Rattle.level_items.specs.declared.annot.AnnotItem.{AnnotItem}
use Rattle.level_items.specs.declared.annot.AnnotLevel.{AnnotLevel}
use Rattle.level_items.specs.declared.annot.Annot.{Annot}
use Rattle.level_items.specs.Faults.{time_fault, order_fault}
use Rattle.std.specs.Option.{option_or}
use Rattle.db_config.specs.declared.attributes.AttributeDef.{AttributeDef}
use Rattle.db_config.specs.declared.parts.LevelDef.{LevelDef}
use Rattle.emu_names.specs.Texts.{same_text}
use Rattle.bundle_state.specs.Lookups.{level_for, has_attribute}

-- sample rates are whole hertz from 1 to 1,000,000
abbrev pub is_rate : ℕ → Bool
is_rate rate = nat_le 1 rate && nat_le rate TOP_RATE

-- the labels of an item behind labels of these names: an unknown attribute, one that is named twice, a
-- label that is too long
abbrev pub labels_fault : List AttributeDef → List (List ℕ) → List AnnotLabel → Option Broken
labels_fault defs named [] = None
labels_fault defs named (l ∷ ls) =
    if not (has_attribute defs l.name) then Some (rules.NoAttribute l.name)
    else if list_any (same_text l.name) named then Some (rules.TwoLabels l.name)
    else if nat_lt LABEL_BYTES (length l.value) then Some rules.LabelTooLong
    else labels_fault defs (named ++ l.name ∷ []) ls

-- the rule that an item breaks beside the one before it in the file, which is named
abbrev pub behind_fault : LevelKind → Option AnnotItem → AnnotItem → Option Broken
behind_fault kind None item = None
behind_fault kind (Some before) item = order_fault kind before.id before.time item.time

-- an item of a level, where these ids of the bundle are taken and this item stands before it
abbrev pub item_fault : LevelDef → List ℕ → Option AnnotItem → AnnotItem → Option Broken
item_fault def taken before item =
    if list_any (nat_eq item.id.0) taken then Some (rules.IdTaken item.id)
    else option_or (time_fault def.kind item.time)
    (option_or (labels_fault def.attributes [] item.labels) (behind_fault def.kind before item))

-- the items of a level, behind these ids and this item
abbrev pub items_fault : LevelDef → List ℕ → Option AnnotItem → List AnnotItem → Option Broken
items_fault def taken before [] = None
items_fault def taken before (item ∷ items) =
    option_or (item_fault def taken before item)
    (items_fault def (taken ++ item.id.0 ∷ []) (Some item) items)

-- two levels are of one kind
abbrev pub same_kind : LevelKind → LevelKind → Bool
same_kind kinds.Item kinds.Item = true
same_kind kinds.Segment kinds.Segment = true
same_kind kinds.Event kinds.Event = true
same_kind kinds.Item kinds.Segment = false
same_kind kinds.Item kinds.Event = false
same_kind kinds.Segment kinds.Item = false
same_kind kinds.Segment kinds.Event = false
same_kind kinds.Event kinds.Item = false
same_kind kinds.Event kinds.Segment = false

-- a level that the configuration has, behind levels of these names and these ids
abbrev pub known_level_fault : LevelDef → List (List ℕ) → List ℕ → AnnotLevel → Option Broken
known_level_fault def named taken level =
    if list_any (same_text level.name) named then Some (rules.TwoLevels level.name)
    else if not (same_kind def.kind level.kind) then Some (rules.LevelKind level.name)
    else items_fault def taken None level.items

-- a level, where this level of the configuration has its name
abbrev pub found_level_fault : Option LevelDef → List (List ℕ) → List ℕ → AnnotLevel → Option Broken
found_level_fault None named taken level = Some (rules.NoLevel level.name)
found_level_fault (Some def) named taken level = known_level_fault def named taken level

-- a level, behind levels of these names and these ids
abbrev pub level_fault : List LevelDef → List (List ℕ) → List ℕ → AnnotLevel → Option Broken
level_fault defs named taken level = found_level_fault (level_for level.name defs) named taken level

-- the ids of items as they are given
abbrev pub given_ids : List AnnotItem → List ℕ
given_ids items = map (λ i. i.id.0) items

-- the levels, in the order of the file
abbrev pub levels_fault : List LevelDef → List (List ℕ) → List ℕ → List AnnotLevel → Option Broken
levels_fault defs named taken [] = None
levels_fault defs named taken (level ∷ levels) =
    option_or (level_fault defs named taken level)
    (levels_fault defs (named ++ level.name ∷ []) (taken ++ given_ids level.items) levels)

-- how many items the levels have together
abbrev pub given_count : List AnnotLevel → ℕ
given_count levels = sum_by (λ l. length l.items) levels

-- the rule that an annotation breaks first, its links aside
abbrev pub annot_fault : List LevelDef → Annot → Option Broken
annot_fault defs annot =
    if not (is_rate annot.rate) then Some rules.RateOut
    else if nat_lt BUNDLE_ITEMS (given_count annot.levels)
    then Some (rules.TooMany counted.BundleItems)
    else levels_fault defs [] [] annot.levels
