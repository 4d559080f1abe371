-- Words of contracts and loops beside `specs/Results.antt`; no promise of the program rests on them.
use Rattle.std.specs.Prelude.{◌≡◌, true, false, List, Result, Ok, Err}
use Rattle.db_config.specs.declared.parts.ConfigParts.{ConfigParts}
use Rattle.bundle_state.specs.Bundle.{BundleParts}
use Rattle.eql_resolve.specs.Asked.{AskedQuery}
use Rattle.eql_rows.specs.declared.span.Span.{Span}
use Rattle.eql_tuples.specs.declared.faults.MatchFault.{MatchFault}
use Rattle.eql_tuples.specs.declared.faults.MatchFault.TheVariants.{TooManyTuples, Memory}
use Rattle.eql_model.specs.Meaning.{has_too_many}
use Rattle.eql_model.specs.Results.{results}

-- an answer is the list of the results, and no part of the query has too many tuples; or it is that
-- some part has
abbrev pub Matches : Result (List Span) MatchFault → ConfigParts → BundleParts → AskedQuery → Type 0
Matches (Ok spans) c b q = (spans ≡ results c b q) × (has_too_many c b q ≡ false)
Matches (Err TooManyTuples) c b q = has_too_many c b q ≡ true
Matches (Err Memory) c b q = Unit {0}
