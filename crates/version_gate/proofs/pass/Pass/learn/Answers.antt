use Rattle.std.proofs.Common.{ap, arith}
use Rattle.version_gate.proofs.pass.Pass.learn.Goals as goal

pub follow-requires-clause-order : goal.follow-requires-clause-order
follow-requires-clause-order g c =
    (c.self.inside.number, rw (← ap (λ f. f.list) c.self.view_is) c.self.invariant.2, omega (arith, c.if-number-self.false))
