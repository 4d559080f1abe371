use Rattle.session_core.specs.declared.line.Request.TheVariants as requests
use Rattle.session_core.proofs.Keeping.{look_of_line}
use Rattle.plain_core.proofs.machine.Core.look.Goals as goal

pub returns-in-Look-clause-ok : goal.returns-in-Look-clause-ok
returns-in-Look-clause-ok c =
    look_of_line c.args.self.now c.hold_look.new.self c.args.line (requests.Look c.in-Look.ask) c.hold_look.result
    c.in-Look.is (rw c.in-Look.ask-is at c.hold_look.ensures.ok)

pub returns-in-Query-clause-ok : goal.returns-in-Query-clause-ok
returns-in-Query-clause-ok c =
    look_of_line c.args.self.now c.hold_query.new.self c.args.line (requests.Query c.in-Query.ask) c.hold_query.result
    c.in-Query.is (rw c.in-Query.ask-is at c.hold_query.ensures.ok)
