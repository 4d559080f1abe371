-- The annotation that a bundle is printed as: all levels of the configuration, all labels of an item, and
-- the links in the order of the list.
use Rattle.std.specs.Prelude.{ℕ, List, [], ◌∷◌, map}
use Rattle.level_items.specs.declared.annot.AnnotLabel.{AnnotLabel}
use Rattle.level_items.specs.declared.annot.AnnotItem.{AnnotItem}
use Rattle.level_items.specs.declared.annot.AnnotLevel.{AnnotLevel}
use Rattle.level_items.specs.declared.annot.Annot.{Annot}
use Rattle.level_items.specs.declared.items.Item.{Item}
use Rattle.level_items.specs.Levels.{Level}
use Rattle.db_config.specs.declared.attributes.AttributeDef.{AttributeDef}
use Rattle.db_config.specs.declared.parts.LevelDef.{LevelDef}
use Rattle.db_config.specs.declared.parts.ConfigParts.{ConfigParts}
use Rattle.bundle_state.specs.Bundle.{BundleParts}
use Rattle.bundle_state.specs.Linked.{pair_of}

-- a label with the name of its attribute
abbrev pub given_label : AttributeDef → List ℕ → AnnotLabel
given_label def label = record { name = def.name; value = label }

-- the labels of an item, in the order of the attributes
abbrev pub given_labels : List AttributeDef → List (List ℕ) → List AnnotLabel
given_labels [] labels = []
given_labels (def ∷ defs) [] = []
given_labels (def ∷ defs) (label ∷ labels) = given_label def label ∷ given_labels defs labels

-- an item with all its labels
abbrev pub given_item : List AttributeDef → Item → AnnotItem
given_item defs item =
    record { id = item.id; time = item.time; labels = given_labels defs item.labels }

-- a level with its name and type
abbrev pub given_level : LevelDef → Level → AnnotLevel
given_level def level = record {
  name = def.name;
  kind = def.kind;
  items = map (given_item def.attributes) level.items;
}

-- the levels, in the order of the configuration
abbrev pub given_levels : List LevelDef → List Level → List AnnotLevel
given_levels [] levels = []
given_levels (def ∷ defs) [] = []
given_levels (def ∷ defs) (level ∷ levels) = given_level def level ∷ given_levels defs levels

-- the annotation of a bundle
abbrev pub given : ConfigParts → BundleParts → Annot
given config bundle = record {
  annotates = bundle.annotates;
  rate = bundle.rate;
  levels = given_levels config.levels bundle.levels;
  links = map pair_of bundle.links;
}
