-- The levels that an annotation makes: a level that is not given is empty, and a label that is not given
-- is the empty text.
use Rattle.std.specs.Prelude.{ℕ, List, [], ◌∷◌, length, map, if◌then◌else◌}
use Rattle.level_items.specs.declared.annot.AnnotLabel.{AnnotLabel}
use Rattle.level_items.specs.declared.annot.AnnotItem.{AnnotItem}
use Rattle.level_items.specs.declared.annot.AnnotLevel.{AnnotLevel}
use Rattle.level_items.specs.declared.items.Item.{Item}
use Rattle.level_items.specs.Levels.{Level, level_of}
use Rattle.db_config.specs.declared.attributes.AttributeDef.{AttributeDef}
use Rattle.db_config.specs.declared.parts.LevelDef.{LevelDef}
use Rattle.emu_names.specs.Texts.{same_text}

-- the first label of a name, or the empty text
abbrev pub label_named : List ℕ → List AnnotLabel → List ℕ
label_named name [] = []
label_named name (l ∷ ls) = if same_text l.name name then l.value else label_named name ls

-- the labels of an item: one for each attribute, the empty text where none is given
abbrev pub made_labels : List AttributeDef → List AnnotLabel → List (List ℕ)
made_labels defs labels = map (λ d. label_named d.name labels) defs

-- an item with one label for each attribute
abbrev pub made_item : List AttributeDef → AnnotItem → Item
made_item defs item =
    record { id = item.id; time = item.time; labels = made_labels defs item.labels }

-- the items of the level of a name, or none
abbrev pub items_named : List ℕ → List AnnotLevel → List AnnotItem
items_named name [] = []
items_named name (l ∷ ls) = if same_text l.name name then l.items else items_named name ls

-- a level of the configuration, with the items that are given for it
abbrev pub made_level : List AnnotLevel → LevelDef → Level
made_level levels def =
    level_of def.kind (length def.attributes)
    (map (made_item def.attributes) (items_named def.name levels))

-- the levels of the configuration, in its order
abbrev pub made_levels : List LevelDef → List AnnotLevel → List Level
made_levels defs levels = map (made_level levels) defs
