use Rattle.std.proofs.Common.{ap, arith}
use Rattle.version_gate.proofs.Numbers.{numbered_once}
use Rattle.version_gate.proofs.pass.Pass.look.Goals as goal

pub follow-requires-clause-order : goal.follow-requires-clause-order
follow-requires-clause-order g c =
    let found = c.into_parts-snapshot in
    let one = numbered_once c.number.result found.result.0.number c.in_ok-shown.shown.list c.number.ensures found.ensures.numbered in
    (c.self.inside.number, rw (← ap (λ f. f.list) c.self.view_is) c.self.invariant.2, omega (arith, one, c.if-number-self.false))
