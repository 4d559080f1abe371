-- What the names and numbers of a configuration stand for.
use Rattle.std.specs.Prelude.{ℕ, suc, Bool, true, ◌||◌, ◌&&◌, ◌==◌, List, [], ◌∷◌, length, Option, None, option_map, option_and_then}
use Rattle.std.specs.List.{list_any, position, find, slice_get}
use Rattle.std.specs.Option.{option_or, option_map_or}
use Rattle.db_config.specs.declared.groups.GroupDef.{GroupDef}
use Rattle.db_config.specs.declared.attributes.AttributeDef.{AttributeDef}
use Rattle.db_config.specs.declared.parts.LevelDef.{LevelDef}
use Rattle.db_config.specs.declared.parts.LinkDef.{LinkDef}
use Rattle.db_config.specs.declared.parts.AttributePlace.{AttributePlace}
use Rattle.emu_names.specs.Texts.{same_text}

-- the number of the first level of this name
abbrev pub level_named : List ℕ → List LevelDef → Option ℕ
level_named name levels = position (λ d. same_text d.name name) levels

-- the number of the first attribute of this name among a level's
abbrev pub attribute_named : List ℕ → List AttributeDef → Option ℕ
attribute_named name defs = position (λ d. same_text d.name name) defs

-- the place of an attribute of a level
abbrev pub place_of : ℕ → ℕ → AttributePlace
place_of level attribute = record { level = level; attribute = attribute }

-- the first attribute of this name, where these levels are numbered from `level` on
abbrev pub attribute_from : ℕ → List ℕ → List LevelDef → Option AttributePlace
attribute_from level name [] = None
attribute_from level name (d ∷ ds) =
    option_or (option_map (place_of level) (attribute_named name d.attributes))
    (attribute_from (suc level) name ds)

-- what a name stands for: an attribute, else a level, which stands for its first attribute
abbrev pub name_place : List ℕ → List LevelDef → Option AttributePlace
name_place name levels =
    option_or (attribute_from 0 name levels)
    (option_map (λ level. place_of level 0) (level_named name levels))

-- the attribute at a place
abbrev pub attribute_at : AttributePlace → List LevelDef → Option AttributeDef
attribute_at place levels =
    option_and_then (λ d. slice_get d.attributes place.attribute) (slice_get levels place.level)

-- a label is legal where it is empty, where every label is, or where it is listed
abbrev pub is_legal_for : List ℕ → AttributeDef → Bool
is_legal_for label def =
    (length label == 0)
    || option_map_or (λ labels. list_any (same_text label) labels) def.legal true

-- the values of the first label group of this name
abbrev pub values_named : List ℕ → List GroupDef → Option (List (List ℕ))
values_named name groups = option_map (λ g. g.values) (find (λ g. same_text g.name name) groups)

-- the values of a label group: an attribute's groups come before the database's
abbrev pub group_values : List ℕ → List GroupDef → List GroupDef → Option (List (List ℕ))
group_values name ours shared = option_or (values_named name ours) (values_named name shared)

-- whether a link definition leads from the one level to the other
abbrev pub leads : ℕ → ℕ → LinkDef → Bool
leads upper lower def = (def.upper == upper) && (def.lower == lower)
