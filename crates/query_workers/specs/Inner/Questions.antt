-- What is asked of each bundle of a version: a query, or one whose results are carried.
use Rattle.std.specs.Prelude.{Bool, List}
use Rattle.db_config.specs.declared.parts.ConfigParts.{ConfigParts}
use Rattle.bundle_state.specs.Bundle.{BundleParts}
use Rattle.eql_resolve.specs.Inner.Sound.{IsResolvedBy}
use Rattle.eql_match.specs.eql_rows.declared.row.Row.{Row}
use Rattle.eql_match.specs.eql_model.Meaning.{has_too_many}
use Rattle.eql_match.specs.eql_model.Rows.{rows}
use Rattle.session_core.specs.requery.Carried.{carried_rows}
use Rattle.session_core.specs.requery.Inner.Sound.{IsReachedBy}
use Rattle.query_workers.specs.declared.question.Question.{Question}
use Rattle.query_workers.specs.declared.question.Question.TheVariants.{Rows, Carried}

-- the question was resolved by the configuration
abbrev pub IsAskedOf : ConfigParts → Question → Type 0
IsAskedOf c (Rows asked) = IsResolvedBy c asked.now
IsAskedOf c (Carried reached) = IsReachedBy c reached.now

-- its rows in a bundle
abbrev pub rows_for : Question → ConfigParts → BundleParts → List Row
rows_for (Rows asked) c b = rows c b asked.now
rows_for (Carried reached) c b = carried_rows c b reached.now

-- some part of its query has over 1,000,000 tuples in the bundle
abbrev pub too_many_for : Question → ConfigParts → BundleParts → Bool
too_many_for (Rows asked) c b = has_too_many c b asked.now.query
too_many_for (Carried reached) c b = has_too_many c b reached.now.asked.query
