use Rattle.session_core.proofs.Keeping.{kept_tried, answered_ok, answered_err}
use Rattle.plain_core.proofs.machine.Core.query.Goals as goal

pub invariant_of-self : goal.invariant_of-self
invariant_of-self c =
    kept_tried c.self.inside.config c.self.inside.base c.self.inside.kept.acts c.args.line c.args.session c.self.inside.entries c.self.inside.database c.self.inside.looks c.self.inside.queries c.close_query.new.queries
    c.close_query.result c.close_query.ensures.ok c.close_query.ensures.err c.self.invariant

pub returns-clause-ok : goal.returns-clause-ok
returns-clause-ok c =
    rw (← c.self.view_is)
    (answered_ok c.self.inside.config c.self.inside.base c.args.line c.args.session c.self.inside.entries c.self.inside.looks c.self.inside.queries c.close_query.new.queries
    c.close_query.result c.close_query.ensures.ok c.self.invariant.of_queries)

pub returns-clause-err : goal.returns-clause-err
returns-clause-err c =
    rw (← c.self.view_is)
    (answered_err c.self.inside.config c.self.inside.base c.args.line c.args.session c.self.inside.entries c.self.inside.looks c.self.inside.queries c.close_query.new.queries
    c.close_query.result c.close_query.ensures.err)
