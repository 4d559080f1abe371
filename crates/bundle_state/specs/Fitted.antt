-- A bundle under a configuration that has more levels, attributes or link definitions than the one that it
-- was made under. What is new stands last, so all numbers stay.
use Rattle.std.specs.Prelude.{◌≡◌, ◌≤◌, List, [], ◌∷◌, length, Option, Some, None}
use Rattle.level_items.specs.Levels.{Level, level_of, widened}
use Rattle.db_config.specs.declared.parts.LevelDef.{LevelDef}
use Rattle.db_config.specs.declared.parts.ConfigParts.{ConfigParts}
use Rattle.db_config.specs.Extends.{Begins, Extends}
use Rattle.bundle_state.specs.Bundle.{BundleParts}
use Rattle.bundle_state.specs.Built.{FitsConfig}

-- a level with an empty label for each attribute that it lacks; one that is new has no items
abbrev pub fitted_level : LevelDef → Option Level → Level
fitted_level def None = level_of def.kind (length def.attributes) []
fitted_level def (Some level) = widened (length def.attributes) level

-- one level for each of these definitions
abbrev pub fitted_levels : List LevelDef → List Level → List Level
fitted_levels [] levels = []
fitted_levels (d ∷ defs) [] = fitted_level d None ∷ fitted_levels defs []
fitted_levels (d ∷ defs) (l ∷ levels) = fitted_level d (Some l) ∷ fitted_levels defs levels

-- the bundle with the levels and the link definitions of a configuration
abbrev pub fitted : ConfigParts → BundleParts → BundleParts
fitted config b =
    record b { levels = fitted_levels config.levels b.levels; definitions = config.links }

-- a level has the kind of its definition, and at most its attributes
pub record CanFitLevel (def : LevelDef) (level : Level) : Type 0 where
  pub kind : level.kind ≡ def.kind
  pub attributes : level.attributes ≤ length def.attributes

-- each level has such a definition of its number
abbrev pub CanFitLevels : List LevelDef → List Level → Type 0
CanFitLevels defs [] = Unit {0}
CanFitLevels [] (l ∷ levels) = ⊥
CanFitLevels (d ∷ defs) (l ∷ levels) = CanFitLevel d l × CanFitLevels defs levels

-- the configuration begins with what the bundle was made under
pub record CanFit (config : ConfigParts) (b : BundleParts) : Type 0 where
  pub levels : CanFitLevels config.levels b.levels
  pub definitions : Begins b.definitions config.links

-- a bundle that fits a configuration can be made to fit one that extends it
abbrev pub ExtensionsCanFit : Type 0
ExtensionsCanFit =
    (old new : ConfigParts) (b : BundleParts) →
    Extends old new → FitsConfig old b → CanFit new b
