use Rattle.eql_match.specs.eql_model.Rows.{segment_list, any_has_too_many}
use Rattle.version_tree.specs.Version.{bundles_of}
use Rattle.query_workers.proofs.answers.answer_asked.Goals as goal

pub returns : goal.returns
returns g c =
    let config = c.args.version.now.config in
    let bundles = bundles_of c.args.version.now.bundles in
    c.answer_listed.ensures (segment_list config bundles c.args.asked.now) (any_has_too_many config bundles c.args.asked.now)
    c.answer.ensures
