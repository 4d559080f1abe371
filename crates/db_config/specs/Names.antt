-- The names of levels and attributes of a configuration (EMU-SDMS Manual, "The emuDB format":
-- `levelDefinitions`), in reading order.
use Rattle.std.specs.Prelude.{ℕ, Bool, true, ◌&&◌, not, List, [], ◌∷◌, ◌++◌, map, Option, Some, None, if◌then◌else◌}
use Rattle.std.specs.List.{list_any, flat_map}
use Rattle.emu_names.specs.Texts.{same_text}
use Rattle.db_config.specs.declared.attributes.AttributeDef.{AttributeDef}
use Rattle.db_config.specs.declared.parts.LevelDef.{LevelDef}

-- the names of attributes, in order
abbrev pub attribute_names : List AttributeDef → List (List ℕ)
attribute_names defs = map (λ a. a.name) defs

-- the names without the first that is this one
abbrev pub without_first : List ℕ → List (List ℕ) → List (List ℕ)
without_first name [] = []
without_first name (n ∷ ns) = if same_text n name then ns else n ∷ without_first name ns

-- the names that a level takes: its own, and its attributes', of which one may be the level's own
abbrev pub names_of : LevelDef → List (List ℕ)
names_of def = def.name ∷ without_first def.name (attribute_names def.attributes)

-- the names that the levels take, in reading order
abbrev pub all_names : List LevelDef → List (List ℕ)
all_names levels = flat_map names_of levels

-- the first of these names that stands earlier, where `seen` stand before them
abbrev pub first_double : List (List ℕ) → List (List ℕ) → Option (List ℕ)
first_double seen [] = None
first_double seen (n ∷ ns) =
    if list_any (same_text n) seen then Some n else first_double (seen ++ n ∷ []) ns

-- no name stands twice
abbrev pub are_distinct : List (List ℕ) → Bool
are_distinct [] = true
are_distinct (n ∷ ns) = not (list_any (same_text n) ns) && are_distinct ns
