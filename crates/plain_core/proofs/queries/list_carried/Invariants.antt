use Rattle.std.proofs.Common.{◌≡◌, ◌++◌, drop}
use Rattle.requery.specs.eql_model.Rows.{any_has_too_many}
use Rattle.requery.specs.Carried.{carried_list}
use Rattle.plain_core.proofs.queries.list_carried.Given as goal

abbrev pub invariant-loop-place : goal.invariant-loop-place
invariant-loop-place l = record {
  rows : l.list ++ carried_list l.config (drop l.place l.database.bundles) l.reached ≡ carried_list l.config l.database.bundles l.reached;
  few : any_has_too_many l.config (drop l.place l.database.bundles) l.reached.asked
      ≡ any_has_too_many l.config l.database.bundles l.reached.asked;
}
