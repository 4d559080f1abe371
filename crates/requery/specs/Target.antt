-- Where the results of a query are carried (EMU-SDMS Manual, "The EMU Query Language (EQL)": requery).
use Rattle.std.specs.Prelude.{ℕ}
use Rattle.eql_resolve.specs.Asked.{AskedParts}
use Rattle.requery.specs.declared.target.Target.{Target}
use Rattle.requery.specs.declared.target.Target.TheVariants.{Level, Along}

-- a query, with the level that gives the rows of what is reached their times, and where its results are
-- carried
pub record ReachedParts : Type 0 where
  pub asked : AskedParts
  pub target : Target

-- the level that is reached from results on a level
abbrev pub level_reached : ℕ → Target → ℕ
level_reached level (Level place) = place.level
level_reached level (Along shift) = level
