use Rattle.std.proofs.Common.{rules}
use Rattle.sample_time.proofs.Laws.{nearest_sample_between}
use Rattle.sample_time.proofs.sample.nearest_sample.Goals as goal

pub returns-clause-answer : goal.returns-clause-answer
returns-clause-answer c = search rules

pub returns-clause-between : goal.returns-clause-between
returns-clause-between c =
    nearest_sample_between c.args.time.now c.args.rate _ (returns-clause-answer c)
