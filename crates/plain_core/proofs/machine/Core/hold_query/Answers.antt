use Rattle.std.proofs.Common.{refl}
use Rattle.session_core.specs.declared.line.Request.TheVariants as requests
use Rattle.session_core.specs.Inner.Kept.{head_line}
use Rattle.session_core.proofs.Keeping.{kept_begun_at, query_told}
use Rattle.plain_core.proofs.machine.Core.hold_query.Goals as goal

pub invariant_of-self-2 : goal.invariant_of-self-2
invariant_of-self-2 c =
    kept_begun_at c.self.inside.config c.self.inside.base c.self.inside.kept.acts c.args.head c.args.ask c.self.inside.entries c.self.inside.database c.self.inside.looks c.self.inside.queries c.begin_query.new.queries
    c.len-n.result c.len-n.ensures c.in_ok-begin_query.ensures.ok c.self.invariant

pub returns-clause-ok : goal.returns-clause-ok
returns-clause-ok c =
    query_told c.self.inside.config c.self.inside.base c.args.self.now (head_line c.args.head (requests.Query c.args.ask)) c.args.ask c.self.inside.entries c.self.inside.database c.self.inside.looks c.self.inside.queries c.begin_query.new.queries
    c.len-n.result c.self.view_is refl c.len-n.ensures c.in_ok-begin_query.ensures.ok
