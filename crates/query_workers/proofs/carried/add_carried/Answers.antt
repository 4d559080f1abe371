use Rattle.std.proofs.Common.{rules}
use Rattle.eql_match.proofs.of_eql_model.Shown.{answer_there}
use Rattle.query_workers.proofs.carried.add_carried.Goals as goal

pub add_reached-requires-clause-spans : goal.add_reached-requires-clause-spans
add_reached-requires-clause-spans c =
    answer_there c.args.config.now c.args.indexed.now.bundle c.args.reached.now.asked.query c.as_slice.result.now
    c.requires.resolved.asked.within c.requires.resolved.asked.one_level
    (search (rules, c.as_slice.ensures, c.spans.view_is, c.in-Ok.ensures.0))
