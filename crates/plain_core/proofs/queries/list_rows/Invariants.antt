use Rattle.std.proofs.Common.{◌≡◌, ◌++◌, drop}
use Rattle.requery.specs.eql_model.Rows.{segment_list, any_has_too_many}
use Rattle.plain_core.proofs.queries.list_rows.Given as goal

abbrev pub invariant-loop-place : goal.invariant-loop-place
invariant-loop-place l = record {
  rows : l.list ++ segment_list l.config (drop l.place l.database.bundles) l.asked ≡ segment_list l.config l.database.bundles l.asked;
  few : any_has_too_many l.config (drop l.place l.database.bundles) l.asked ≡ any_has_too_many l.config l.database.bundles l.asked;
}
