use Rattle.eql_rows.proofs.EndToEnd.{ends_answer}
use Rattle.eql_rows.proofs.times.ends_between.Goals as goal

pub returns-clause-ends : goal.returns-clause-ends
returns-clause-ends c =
    ends_answer c.args.items.now c.args.first c.args.last c.index-items-first.result c.index-items-last.result
    c.first_sample-start.result c.last_sample-end.result c.requires.order c.requires.within c.first_sample-start.ensures
    c.last_sample-end.ensures.last
