use Rattle.std.proofs.Common.{ap, ◌∙◌, arith}
use Rattle.version_gate.proofs.Numbers.{caught_up, went_past}
use Rattle.version_gate.proofs.law.catch_up.Goals as goal

pub returns-clause-caught : goal.returns-clause-caught
returns-clause-caught g c same =
    let list = ap (λ f. f.list) c.tell.ensures.note in
    let number = c.number.ensures ∙ ap (λ b. b.number) c.tell.ensures.same in
    caught_up c.seen.result c.number.result c.args.publisher.now.list c.learn.new.self.list c.args.pass.now.list same c.seen.ensures (rw number c.tell.ensures.number) (rw (← list) c.learn.ensures.learnt) c.learn.ensures.own

pub returns-clause-passed : goal.returns-clause-passed
returns-clause-passed g c = λ other k numbered.
    let list = ap (λ f. f.list) c.tell.ensures.note in
    let number = c.number.ensures ∙ ap (λ b. b.number) c.tell.ensures.same in
    let high = went_past c.seen.result c.number.result k c.args.publisher.now.list c.learn.new.self.list other c.seen.ensures (rw number c.tell.ensures.number) (rw (← list) c.learn.ensures.learnt) numbered in
    omega (arith, number, high)
