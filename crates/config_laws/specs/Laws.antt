-- That additions make configurations, each kind by itself.
use Rattle.std.specs.Prelude.{◌≡◌, ℕ, List, IsTrue, Result, Ok}
use Rattle.emu_names.specs.declared.kinds.LinkKind.{LinkKind}
use Rattle.emu_names.specs.declared.rules.Broken.{Broken}
use Rattle.db_config.specs.declared.attributes.AttributeDef.{AttributeDef}
use Rattle.db_config.specs.declared.parts.ConfigParts.{ConfigParts}
use Rattle.db_config.specs.declared.parts.LevelDef.{LevelDef}
use Rattle.config_additions.specs.Added.{level_added, attribute_added, definition_added}
use Rattle.db_config.specs.Made.{is_attribute, is_level}
use Rattle.db_config.specs.Valid.{is_config}

-- a change that breaks no rule makes a configuration of a configuration
abbrev pub MakesConfigs : (ConfigParts → Result ConfigParts Broken) → Type 0
MakesConfigs change =
    (before after : ConfigParts) →
    IsTrue (is_config before) → change before ≡ Ok after → IsTrue (is_config after)

-- adding a level does, where it has a name, and attributes, few enough, which are such too
abbrev pub LevelsMakeConfigs : Type 0
LevelsMakeConfigs = (def : LevelDef) → IsTrue (is_level def) → MakesConfigs (level_added def)

-- adding an attribute does, on whatever level, where it has a name, and lists that are short enough
abbrev pub AttributesMakeConfigs : Type 0
AttributesMakeConfigs =
    (level : List ℕ) (attribute : AttributeDef) →
    IsTrue (is_attribute attribute) → MakesConfigs (attribute_added level attribute)

-- adding a link definition does, whatever it names
abbrev pub DefinitionsMakeConfigs : Type 0
DefinitionsMakeConfigs =
    (kind : LinkKind) (upper lower : List ℕ) → MakesConfigs (definition_added kind upper lower)
