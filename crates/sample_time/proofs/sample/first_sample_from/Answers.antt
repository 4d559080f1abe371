use Rattle.std.proofs.Common.{rules}
use Rattle.sample_time.proofs.Laws.{first_sample_between}
use Rattle.sample_time.proofs.sample.first_sample_from.Goals as goal

pub returns-clause-answer : goal.returns-clause-answer
returns-clause-answer c = search rules

pub returns-clause-between : goal.returns-clause-between
returns-clause-between c =
    first_sample_between c.args.time.now c.args.rate _ (returns-clause-answer c)
