-- What becomes of a configuration to which a level, an attribute or a link definition is added, or the rule
-- that this breaks first. The new part stands last in its list, so that levels, attributes and
-- definitions keep their numbers.
use Rattle.std.specs.Prelude.{◌≡◌, ℕ, Bool, ◌&&◌, not, List, [], ◌∷◌, ◌++◌, length, nat_le, slice_set, Option, Some, None, Result, Ok, Err, if◌then◌else◌, ok_or, option_map}
use Rattle.std.specs.List.{list_any, slice_get}
use Rattle.std.specs.Option.{option_and_then}
use Rattle.emu_names.specs.declared.kinds.LinkKind.{LinkKind}
use Rattle.emu_names.specs.declared.limits.TheConstants.{LEVELS, ATTRIBUTES, LINK_DEFINITIONS}
use Rattle.emu_names.specs.declared.rules.Broken.{Broken}
use Rattle.emu_names.specs.declared.rules.Broken.TheVariants as rules
use Rattle.emu_names.specs.declared.rules.What.TheVariants as counted
use Rattle.emu_names.specs.Steps.{onward}
use Rattle.emu_names.specs.Texts.{same_text}
use Rattle.db_config.specs.declared.attributes.AttributeDef.{AttributeDef}
use Rattle.db_config.specs.declared.parts.LevelDef.{LevelDef}
use Rattle.db_config.specs.declared.parts.LinkDef.{LinkDef}
use Rattle.db_config.specs.declared.parts.ConfigParts.{ConfigParts}
use Rattle.db_config.specs.Names.{names_of, all_names, first_double}
use Rattle.db_config.specs.Lookups.{level_named}
use Rattle.db_config.specs.Above.{leads_round}
use Rattle.db_config.specs.Valid.{same_levels}

-- a configuration, unless a name of its new part stands earlier
abbrev pub unless_double : Option (List ℕ) → ConfigParts → Result ConfigParts Broken
unless_double None config = Ok config
unless_double (Some name) config = Err (rules.DoubleName name)

-- the configuration with a level put last: its name is tested before those of its attributes
abbrev pub level_added : LevelDef → ConfigParts → Result ConfigParts Broken
level_added def config =
    if nat_le LEVELS (length config.levels) then Err (rules.TooMany counted.Levels)
    else unless_double (first_double (all_names config.levels) (names_of def))
    (record config { levels = config.levels ++ def ∷ [] })

-- whether a level has an attribute of this name
abbrev pub has_attribute : List ℕ → LevelDef → Bool
has_attribute name def = list_any (λ a. same_text a.name name) def.attributes

-- the names that a level takes beside its own where it gets an attribute: none where the attribute is the
-- first to share the level's name
abbrev pub new_names : LevelDef → List ℕ → List (List ℕ)
new_names def name =
    if same_text def.name name && not (has_attribute name def) then [] else name ∷ []

-- the level with an attribute put last
abbrev pub with_attribute : AttributeDef → LevelDef → LevelDef
with_attribute attribute def = record {
  name = def.name;
  kind = def.kind;
  attributes = def.attributes ++ attribute ∷ [];
}

-- the number of the level of this name, and the level
abbrev pub level_with : List ℕ → List LevelDef → Option (ℕ × LevelDef)
level_with name levels =
    option_and_then (λ number. option_map (λ def. (number, def)) (slice_get levels number))
    (level_named name levels)

-- the configuration with an attribute put last on this level, which has this number
abbrev pub attribute_put : AttributeDef → ConfigParts → ℕ × LevelDef → Result ConfigParts Broken
attribute_put attribute config (number, def) =
    if nat_le ATTRIBUTES (length def.attributes) then Err (rules.TooMany counted.Attributes)
    else unless_double (first_double (all_names config.levels) (new_names def attribute.name))
    (record config { levels = slice_set config.levels number (with_attribute attribute def) })

-- the configuration with an attribute put last on the level of a name
abbrev pub attribute_added : List ℕ → AttributeDef → ConfigParts → Result ConfigParts Broken
attribute_added level attribute config =
    onward (ok_or (level_with level config.levels) (rules.NoLevel level))
    (attribute_put attribute config)

-- the number of the level of a name that a new link definition leads from or to
abbrev pub end_named : List ℕ → ConfigParts → Result ℕ Broken
end_named name config = ok_or (level_named name config.levels) (rules.UnknownLevel name)

-- a link definition between the levels of these numbers
abbrev pub definition_of : LinkKind → ℕ → ℕ → LinkDef
definition_of kind upper lower = record { kind = kind; upper = upper; lower = lower }

-- the configuration with a link definition put last, where there is room for it, and no other has its levels
abbrev pub definition_put : ConfigParts → LinkDef → Result ConfigParts Broken
definition_put config def =
    if nat_le LINK_DEFINITIONS (length config.links) then Err (rules.TooMany counted.LinkDefinitions)
    else if list_any (same_levels def) config.links then Err rules.DoubleLink
    else Ok (record config { links = config.links ++ def ∷ [] })

-- the configuration with a link definition from the level of the one name to that of the other put last
abbrev pub definition_between : LinkKind → List ℕ → List ℕ → ConfigParts → Result ConfigParts Broken
definition_between kind upper lower config =
    onward (end_named upper config)
    (λ from. onward (end_named lower config)
    (λ to. definition_put config (definition_of kind from to)))

-- a configuration, unless a path of its link definitions leads from a level to itself
abbrev pub unless_round : ConfigParts → Result ConfigParts Broken
unless_round config = if leads_round config.links then Err rules.LevelCycle else Ok config

-- the same, tested last for paths that lead round
abbrev pub definition_added : LinkKind → List ℕ → List ℕ → ConfigParts → Result ConfigParts Broken
definition_added kind upper lower config =
    onward (definition_between kind upper lower config) unless_round
