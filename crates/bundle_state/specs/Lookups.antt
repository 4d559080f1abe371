-- What the names in an annotation stand for in a configuration.
use Rattle.std.specs.Prelude.{ℕ, Bool, List, Option}
use Rattle.std.specs.List.{list_any, find}
use Rattle.db_config.specs.declared.attributes.AttributeDef.{AttributeDef}
use Rattle.db_config.specs.declared.parts.LevelDef.{LevelDef}
use Rattle.emu_names.specs.Texts.{same_text}

-- the level of the configuration that has this name
abbrev pub level_for : List ℕ → List LevelDef → Option LevelDef
level_for name defs = find (λ d. same_text d.name name) defs

-- whether an attribute of the list has this name
abbrev pub has_attribute : List AttributeDef → List ℕ → Bool
has_attribute defs name = list_any (λ d. same_text d.name name) defs
