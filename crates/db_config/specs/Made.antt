-- What the names and the lists of parts of a configuration keep (EMU-SDMS Manual, "The emuDB format":
-- `_DBconfig.json`): names are names, and each list has at most so many elements as its limit.
use Rattle.std.specs.Prelude.{ℕ, Bool, true, ◌&&◌, List, length, nat_le, Option, Some, None}
use Rattle.std.specs.List.{list_all}
use Rattle.emu_names.specs.Name.{is_name}
use Rattle.emu_names.specs.declared.limits.TheConstants.{ATTRIBUTES, LABEL_GROUPS, LIST_TEXTS}
use Rattle.db_config.specs.declared.attributes.AttributeDef.{AttributeDef}
use Rattle.db_config.specs.declared.groups.GroupDef.{GroupDef}
use Rattle.db_config.specs.declared.parts.ConfigParts.{ConfigParts}
use Rattle.db_config.specs.declared.parts.LevelDef.{LevelDef}

-- there are few enough texts
abbrev pub are_few_texts : List (List ℕ) → Bool
are_few_texts texts = nat_le (length texts) LIST_TEXTS

-- legal labels are few enough, where there are some
abbrev pub is_legal_list : Option (List (List ℕ)) → Bool
is_legal_list None = true
is_legal_list (Some texts) = are_few_texts texts

-- a label group has few enough values
abbrev pub is_group : GroupDef → Bool
is_group group = are_few_texts group.values

-- there are few enough label groups
abbrev pub are_groups : List GroupDef → Bool
are_groups groups = nat_le (length groups) LABEL_GROUPS && list_all is_group groups

-- an attribute has a name, and its lists are short enough
abbrev pub is_attribute : AttributeDef → Bool
is_attribute def = is_name def.name && is_legal_list def.legal && are_groups def.groups

-- there are some attributes, and few enough
abbrev pub are_attributes : List AttributeDef → Bool
are_attributes defs = nat_le 1 (length defs) && nat_le (length defs) ATTRIBUTES && list_all is_attribute defs

-- a level has a name, and attributes
abbrev pub is_level : LevelDef → Bool
is_level def = is_name def.name && are_attributes def.attributes

-- each level is one
abbrev pub are_levels : List LevelDef → Bool
are_levels levels = list_all is_level levels

-- names are names, and the lists have their lengths
abbrev pub is_made : ConfigParts → Bool
is_made parts = is_name parts.name && are_levels parts.levels && are_groups parts.groups
