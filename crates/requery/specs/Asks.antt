-- What a query with a requery asks of a database: the first fault of these is the answer, the query's own, the
-- requery's, and that of the time, which is told for the level that is reached (EMU-SDMS Manual, "The EMU
-- Query Language (EQL)": requery).
use Rattle.std.specs.Prelude.{ℕ, Bool, ◌||◌, ◌==◌, List, Option, Result, Ok, Err, if◌then◌else◌}
use Rattle.json_view.specs.Steps.{◌>>=◌}
use Rattle.db_config.specs.declared.parts.ConfigParts.{ConfigParts}
use Rattle.eql_syntax.specs.Tree.{Tree}
use Rattle.eql_resolve.specs.declared.faults.AskFault.{AskFault}
use Rattle.eql_resolve.specs.declared.faults.AskFault.TheVariants.{NoPath}
use Rattle.eql_resolve.specs.Asked.{AskedParts, result_level}
use Rattle.eql_resolve.specs.Resolve.{are_joined, named, time_level, untimed}
use Rattle.requery.specs.declared.target.Requery.{Requery}
use Rattle.requery.specs.declared.target.Requery.TheVariants as asks
use Rattle.requery.specs.declared.target.Target.{Target}
use Rattle.requery.specs.declared.target.Target.TheVariants as targets
use Rattle.requery.specs.Target.{ReachedParts, level_reached}

-- two levels are the same, or one of them is above the other
abbrev pub are_related : ConfigParts → ℕ → ℕ → Bool
are_related c level other = (level == other) || are_joined c level other

-- the attribute of a name, whose level has to be related to that of the results
abbrev pub level_target : ConfigParts → ℕ → List ℕ → Result Target AskFault
level_target c level name =
    named c name >>= λ place. if are_related c level place.level then Ok (targets.Level place) else Err NoPath

-- the target of a requery of results on a level
abbrev pub target_of : ConfigParts → ℕ → Requery → Result Target AskFault
target_of c level (asks.Level name) = level_target c level name
target_of c level (asks.Along from_end right left length) =
    Ok (targets.Along (record { from_end = from_end; right = right; left = left; length = length }))

-- a query with the target of its results, and with the level of the times of what is reached
abbrev pub aimed : ConfigParts → AskedParts → Target → Option (List ℕ) → Result ReachedParts AskFault
aimed c a target time = do
  level ← time_level c (level_reached (result_level a.query) target) time
  Ok (record { asked = record { query = a.query; time = level }; target = target })

-- what a query with a requery asks, with the name of a level for the times where one is given
unfoldable pub reached : ConfigParts → Tree → Requery → Option (List ℕ) → Result ReachedParts AskFault
reached c q requery time = do
  a ← untimed c q
  target ← target_of c (result_level a.query) requery
  aimed c a target time
