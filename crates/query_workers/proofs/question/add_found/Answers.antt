use Rattle.eql_match.proofs.of_eql_model.Shown.{answer_there}
use Rattle.query_workers.proofs.question.add_found.Goals as goal

pub append_of-requires-clause-spans : goal.append_of-requires-clause-spans
append_of-requires-clause-spans c =
    answer_there c.args.config.now c.args.indexed.now.bundle c.args.asked.now.query c.in-Ok.spans c.requires.resolved.within
    c.requires.resolved.one_level c.in-Ok.ensures.0
