-- Words of contracts and loops beside `specs/Rows.antt`; no promise of the program rests on them.
use Rattle.std.specs.Prelude.{◌≡◌, ◌++◌, Bool, true, false, List, Result, Ok, Err}
use Rattle.db_config.specs.declared.parts.ConfigParts.{ConfigParts}
use Rattle.bundle_state.specs.Bundle.{BundleParts}
use Rattle.eql_resolve.specs.Asked.{AskedParts}
use Rattle.eql_rows.specs.declared.row.Row.{Row}
use Rattle.eql_tuples.specs.declared.faults.MatchFault.{MatchFault}
use Rattle.eql_tuples.specs.declared.faults.MatchFault.TheVariants.{TooManyTuples, Memory}
use Rattle.eql_model.specs.Meaning.{has_too_many}
use Rattle.eql_model.specs.Rows.{rows, segment_list, any_has_too_many}

-- an answer is these rows, and the test that there are too many tuples fails; or it is that the test holds
abbrev pub GivesRows : Result (List Row) MatchFault → List Row → Bool → Type 0
GivesRows (Ok list) there too_many = (list ≡ there) × (too_many ≡ false)
GivesRows (Err TooManyTuples) there too_many = too_many ≡ true
GivesRows (Err Memory) there too_many = Unit {0}

-- an answer is the rows of a query in a bundle, and no part of the query has too many tuples; or it is that
-- some part has
abbrev pub Answers : Result (List Row) MatchFault → ConfigParts → BundleParts → AskedParts → Type 0
Answers result c b a = GivesRows result (rows c b a) (has_too_many c b a.query)

-- an answer over some bundles is the rows of one bundle after another, and no bundle has too many tuples; or
-- it is that some bundle has
abbrev pub ListsRows : Result (List Row) MatchFault → ConfigParts → List BundleParts → AskedParts → Type 0
ListsRows result c bundles a = GivesRows result (segment_list c bundles a) (any_has_too_many c bundles a)

-- these rows go behind those that are there, and the test that there are too many tuples fails; or it holds
abbrev pub AddsRows : Result Unit MatchFault → List Row → Bool → List Row → List Row → Type 0
AddsRows (Ok done) more too_many old new = (new ≡ old ++ more) × (too_many ≡ false)
AddsRows (Err TooManyTuples) more too_many old new = too_many ≡ true
AddsRows (Err Memory) more too_many old new = Unit {0}
