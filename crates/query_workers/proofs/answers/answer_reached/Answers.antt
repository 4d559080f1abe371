use Rattle.eql_match.specs.eql_model.Rows.{any_has_too_many}
use Rattle.session_core.specs.requery.Carried.{carried_list}
use Rattle.version_tree.specs.Version.{bundles_of}
use Rattle.query_workers.proofs.answers.answer_reached.Goals as goal

pub returns : goal.returns
returns g c =
    let config = c.args.version.now.config in
    let bundles = bundles_of c.args.version.now.bundles in
    c.answer_listed.ensures (carried_list config bundles c.args.reached.now) (any_has_too_many config bundles c.args.reached.now.asked)
    c.answer_requery.ensures
