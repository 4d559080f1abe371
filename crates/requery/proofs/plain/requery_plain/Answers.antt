use Rattle.std.proofs.Common.{rules}
use Rattle.eql_model.proofs.Shown.{answer_there}
use Rattle.requery.proofs.plain.requery_plain.Goals as goal

pub carried-requires-clause-spans : goal.carried-requires-clause-spans
carried-requires-clause-spans c =
    answer_there c.args.config.now c.args.bundle.now c.args.reached.now.asked.query c.as_slice.result.now
    c.requires.resolved.asked.within c.requires.resolved.asked.one_level
    (search (rules, c.as_slice.ensures, c.spans.view_is, c.in-Ok.ensures.0))
