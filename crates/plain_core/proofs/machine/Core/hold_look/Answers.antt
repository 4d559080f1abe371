use Rattle.std.proofs.Common.{refl}
use Rattle.session_core.specs.declared.line.Request.TheVariants as requests
use Rattle.session_core.specs.Inner.Kept.{head_line}
use Rattle.session_core.proofs.Keeping.{kept_looked_at, look_told}
use Rattle.plain_core.proofs.machine.Core.hold_look.Goals as goal

pub invariant_of-self-2 : goal.invariant_of-self-2
invariant_of-self-2 c =
    kept_looked_at c.self.inside.config c.self.inside.base c.self.inside.kept.acts c.args.head c.args.ask c.self.inside.entries c.self.inside.database c.self.inside.looks c.open_look.new.looks c.self.inside.queries
    c.in_ok-reply.reply c.len-n.result c.len-n.ensures c.in_ok-reply.ensures.ok c.self.invariant

pub returns-clause-ok : goal.returns-clause-ok
returns-clause-ok c =
    look_told c.self.inside.config c.self.inside.base c.args.self.now (head_line c.args.head (requests.Look c.args.ask)) c.args.ask c.self.inside.entries c.self.inside.database c.self.inside.looks c.open_look.new.looks c.self.inside.queries
    c.in_ok-reply.reply c.len-n.result c.self.view_is refl c.len-n.ensures c.in_ok-reply.ensures.ok
