-- What a query with a requery that was resolved by a configuration keeps.
use Rattle.std.specs.Prelude.{IsSome}
use Rattle.db_config.specs.declared.parts.ConfigParts.{ConfigParts}
use Rattle.db_config.specs.Lookups.{attribute_at}
use Rattle.eql_resolve.specs.Inner.Sound.{IsResolvedBy}
use Rattle.requery.specs.declared.target.Target.{Target}
use Rattle.requery.specs.declared.target.Target.TheVariants.{Level, Along}
use Rattle.requery.specs.Target.{ReachedParts}

-- the attribute of the target is one of the configuration
abbrev pub IsTargetIn : ConfigParts → Target → Type 0
IsTargetIn c (Level place) = IsSome (attribute_at place c.levels)
IsTargetIn c (Along shift) = Unit {0}

-- the query was resolved by the configuration, and the target is one of it
pub record IsReachedBy (c : ConfigParts) (r : ReachedParts) : Type 0 where
  pub asked : IsResolvedBy c r.asked
  pub target : IsTargetIn c r.target
