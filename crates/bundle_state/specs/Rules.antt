-- Which annotations keep the rules (EMU-SDMS Manual, "The emuDB format": `_annot.json`): each rule by
-- itself, of the whole annotation, with no order in which they are tested.
use Rattle.std.specs.Prelude.{ℕ, ◌≤◌, Bool, false, ◌&&◌, List, length, map, All, Option, Some, None, IsSome, IsTrue, nat_le, unwrap_or}
use Rattle.std.specs.List.{list_all, position, flat_map}
use Rattle.std.specs.Option.{option_and_then}
use Rattle.emu_names.specs.declared.limits.TheConstants.{BUNDLE_ITEMS, BUNDLE_LINKS}
use Rattle.level_items.specs.declared.annot.AnnotLabel.{AnnotLabel}
use Rattle.level_items.specs.declared.annot.AnnotItem.{AnnotItem}
use Rattle.level_items.specs.declared.annot.AnnotLevel.{AnnotLevel}
use Rattle.level_items.specs.declared.annot.AnnotLink.{AnnotLink}
use Rattle.level_items.specs.declared.annot.Annot.{Annot}
use Rattle.level_items.specs.Times.{fits_kind, ends_in_time}
use Rattle.level_items.specs.Levels.{is_short, are_different, are_in_order}
use Rattle.link_graph.specs.declared.link.Link.{Link}
use Rattle.link_graph.specs.Link.{link_of}
use Rattle.link_graph.specs.Kind.{KeepKind}
use Rattle.db_config.specs.declared.parts.LevelDef.{LevelDef}
use Rattle.db_config.specs.declared.parts.LinkDef.{LinkDef}
use Rattle.db_config.specs.declared.parts.ConfigParts.{ConfigParts}
use Rattle.db_config.specs.Names.{are_distinct}
use Rattle.db_config.specs.Lookups.{leads}
use Rattle.bundle_state.specs.Bundle.{level_of_id}
use Rattle.bundle_state.specs.Lookups.{level_for, has_attribute}
use Rattle.bundle_state.specs.Faults.{is_rate, same_kind, given_ids, given_count}
use Rattle.bundle_state.specs.Made.{made_item, made_levels}
use Rattle.bundle_state.specs.Linked.{kind_of, first_places}

-- the names of labels
abbrev pub label_names : List AnnotLabel → List (List ℕ)
label_names labels = map (λ l. l.name) labels

-- a label names an attribute of the level, and has at most 4,096 bytes
abbrev pub is_label_of : LevelDef → AnnotLabel → Bool
is_label_of def l = has_attribute def.attributes l.name && is_short l.value

-- no attribute has two labels
abbrev pub are_labels_of : LevelDef → List AnnotLabel → Bool
are_labels_of def labels = list_all (is_label_of def) labels && are_distinct (label_names labels)

-- an item's time has the form of the level's kind, and ends in time; its labels are the level's
abbrev pub is_item_of : LevelDef → AnnotItem → Bool
is_item_of def item =
    fits_kind def.kind item.time && ends_in_time item.time && are_labels_of def item.labels

-- segments and points stand in the order of their times, as in a level list
abbrev pub are_given_in_order : LevelDef → List AnnotItem → Bool
are_given_in_order def items = are_in_order def.kind (map (made_item def.attributes) items)

-- the level that is named has the configuration's kind, its items are such, and stand in order
abbrev pub is_level_of : AnnotLevel → Option LevelDef → Bool
is_level_of level None = false
is_level_of level (Some def) =
    same_kind def.kind level.kind && list_all (is_item_of def) level.items
    && are_given_in_order def level.items

-- the configuration has a level of this name, and it is such
abbrev pub is_level_in : List LevelDef → AnnotLevel → Bool
is_level_in defs level = is_level_of level (level_for level.name defs)

-- the names of levels
abbrev pub level_names : List AnnotLevel → List (List ℕ)
level_names levels = map (λ l. l.name) levels

-- the ids of all items of all levels
abbrev pub all_given_ids : List AnnotLevel → List ℕ
all_given_ids levels = flat_map (λ l. given_ids l.items) levels

-- the rate is a rate; there are at most 65,536 items; each level is one of the configuration's, no
-- two of them are the same, and no id stands twice in the whole annotation
abbrev pub keeps_rules : List LevelDef → Annot → Bool
keeps_rules defs annot =
    is_rate annot.rate && nat_le (given_count annot.levels) BUNDLE_ITEMS
    && list_all (is_level_in defs) annot.levels
    && are_distinct (level_names annot.levels) && are_different (all_given_ids annot.levels)

-- the number of the definition of a link that is given, where its items are there and one leads from
-- the level of the first to that of the second
abbrev pub definition_of : List LinkDef → (ℕ → Option ℕ) → AnnotLink → Option ℕ
definition_of defs level given =
    option_and_then (λ upper. option_and_then (λ lower. position (leads upper lower) defs)
    (level given.to.0)) (level given.from.0)

-- the link of a pair that has a definition
abbrev pub link_for : List LinkDef → (ℕ → Option ℕ) → AnnotLink → Link
link_for defs level given =
    link_of (unwrap_or (definition_of defs level given) 0) given.from given.to

-- each link has a definition; there are at most 262,144 pairs, each counted once; and the links of each
-- definition, each pair taken once, are as its kind asks
pub record KeepLinkRules (defs : List LinkDef) (level : ℕ → Option ℕ) (given : List AnnotLink) : Type 0 where
  pub defined : All (λ g. IsSome (definition_of defs level g)) given
  pub few : length (first_places given) ≤ BUNDLE_LINKS
  pub kinds : (number : ℕ) →
      KeepKind (kind_of defs number) number (map (link_for defs level) (first_places given))

-- the annotation keeps the rules of levels and those of links
pub record KeepsAllRules (config : ConfigParts) (annot : Annot) : Type 0 where
  pub levels : IsTrue (keeps_rules config.levels annot)
  pub links : KeepLinkRules config.links (level_of_id (made_levels config.levels annot.levels)) annot.links
