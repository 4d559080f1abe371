-- Words of contracts beside `specs/Carried.antt`; no promise of the program rests on them.
use Rattle.std.specs.Prelude.{List, Result}
use Rattle.db_config.specs.declared.parts.ConfigParts.{ConfigParts}
use Rattle.bundle_state.specs.Bundle.{BundleParts}
use Rattle.eql_rows.specs.declared.row.Row.{Row}
use Rattle.eql_tuples.specs.declared.faults.MatchFault.{MatchFault}
use Rattle.eql_model.specs.Meaning.{has_too_many}
use Rattle.eql_model.specs.Rows.{any_has_too_many}
use Rattle.eql_model.specs.Inner.Rows.{GivesRows}
use Rattle.requery.specs.Target.{ReachedParts}
use Rattle.requery.specs.Carried.{carried_rows, carried_list}

-- an answer is the rows of what is reached in a bundle, and no part of the query has too many tuples; or it is
-- that some part has
abbrev pub Carries : Result (List Row) MatchFault → ConfigParts → BundleParts → ReachedParts → Type 0
Carries result c b r = GivesRows result (carried_rows c b r) (has_too_many c b r.asked.query)

-- the same over some bundles, one after another
abbrev pub ListsCarried : Result (List Row) MatchFault → ConfigParts → List BundleParts → ReachedParts → Type 0
ListsCarried result c bundles r =
    GivesRows result (carried_list c bundles r) (any_has_too_many c bundles r.asked)
