use Rattle.std.specs.Arc.{arc_value}
use Rattle.session_run.proofs.Showing.{seen_last}
use Rattle.session_run.proofs.shown.look_once.Goals as goal

pub returns-then-seen-number-clause-shown : goal.returns-then-seen-number-clause-shown
returns-then-seen-number-clause-shown c list p here =
    seen_last c.in-Ok.field-0.number c.args.number list c.args.pass.now.list c.look.new.self.list (arc_value c.in-Ok.field-0.version)
    c.if-seen-number.true p c.in-Ok.ensures.holds here c.in-Ok.ensures.number c.in-Ok.ensures.last
