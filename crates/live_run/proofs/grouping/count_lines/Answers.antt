use Rattle.std.proofs.Common.{List, ◌∙◌, ap, arith, length, refl}
use Rattle.live_seats.specs.session_core.declared.line.Line.{Line}
use Rattle.live_seats.specs.session_core.Legal.{lines_of_session}
use Rattle.live_run.proofs.Sessions.{count_all, count_low, count_other, count_own}
use Rattle.live_run.proofs.grouping.count_lines.Goals as goal
use Rattle.live_run.proofs.grouping.count_lines.Goals.{then-line-session, else-line-session}

pub loop-line-init : goal.loop-line-init
loop-line-init c = refl

pub overflow_add-count : goal.overflow_add-count
overflow_add-count c =
    omega (arith, c.loop-line-test.true, c.as_slice-line-items.type_inv.0, count_low c.args.session c.as_slice-line-items.result.now c.loop-line.line-index c.loop-line.count c.loop-line.invariant)

pub loop-line-preserved : goal.loop-line-preserved
loop-line-preserved c = elim c.if-line-session.branch [
  | then-line-session w ↦ w.count-is ∙ count_own c.args.session c.as_slice-line-items.result.now c.loop-line.line-index c.line-item.result c.loop-line.count c.loop-line-test.true c.loop-line.invariant
      c.line-item.is w.if-line-session.true
  | else-line-session w ↦ w.count-is ∙ count_other c.args.session c.as_slice-line-items.result.now c.loop-line.line-index c.line-item.result c.loop-line.count c.loop-line-test.true c.loop-line.invariant
      c.line-item.is w.if-line-session.false
]

pub returns : goal.returns
returns c =
    count_all c.args.session c.as_slice-line-items.result.now c.loop-line.line-index c.loop-line.count c.loop-line-test.false c.loop-line.invariant
    ∙ ap (λ (l : List Line). length (lines_of_session c.args.session l)) c.as_slice-line-items.ensures
