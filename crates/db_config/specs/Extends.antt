-- When a configuration is as an earlier one was, but for parts that stand behind the old ones.
use Rattle.std.specs.Prelude.{◌≡◌, List, [], ◌∷◌, ◌++◌}
use Rattle.db_config.specs.declared.parts.LevelDef.{LevelDef}
use Rattle.db_config.specs.declared.parts.ConfigParts.{ConfigParts}

-- the one list begins with the other
abbrev pub Begins : {A : Type 0} → List A → List A → Type 0
Begins {A} old new = (more : List A) × (new ≡ old ++ more)

-- a level that is as it was, but for attributes that stand behind the old ones
pub record ExtendsLevel (old new : LevelDef) : Type 0 where
  pub name : new.name ≡ old.name
  pub kind : new.kind ≡ old.kind
  pub attributes : Begins old.attributes new.attributes

-- the levels are as they were, but for attributes, and others may stand behind them
abbrev pub ExtendLevels : List LevelDef → List LevelDef → Type 0
ExtendLevels [] new = Unit {0}
ExtendLevels (d ∷ old) [] = ⊥
ExtendLevels (d ∷ old) (e ∷ new) = ExtendsLevel d e × ExtendLevels old new

-- a configuration that is as it was, but for levels, attributes and link definitions behind the old ones
pub record Extends (old new : ConfigParts) : Type 0 where
  pub name : new.name ≡ old.name
  pub uuid : new.uuid ≡ old.uuid
  pub extension : new.extension ≡ old.extension
  pub tracks : new.tracks ≡ old.tracks
  pub groups : new.groups ≡ old.groups
  pub levels : ExtendLevels old.levels new.levels
  pub links : Begins old.links new.links
