use Rattle.std.specs.Arc.{arc_value}
use Rattle.session_run.proofs.Showing.{found_state}
use Rattle.session_run.proofs.shown.look_at.Goals as goal

pub returns-in-Some-2-clause-state : goal.returns-in-Some-2-clause-state
returns-in-Some-2-clause-state g c =
    found_state (λ s. arc_value s) c.args.book.now.config c.args.book.now.history c.args.book.now.opened c.number-number.result c.args.book.now.list c.loop.pass.list c.in_ok-shown.field-0 c.in-Some-2.shown
    c.number-number.ensures c.tell.ensures.shown c.tell.ensures.number c.loop.invariant.4 c.in_ok-shown.ensures.shown c.in-Some-2.is
