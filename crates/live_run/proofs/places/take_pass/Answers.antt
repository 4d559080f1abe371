use Rattle.std.proofs.Common.{◌≡◌}
use Rattle.live_run.proofs.Rooming.{all_front, all_last}
use Rattle.live_run.proofs.places.take_pass.Goals as goal

pub returns-clause-gate : goal.returns-clause-gate
returns-clause-gate g c =
    all_last (λ p. p.gate ≡ g.K.Opening.opened.gate) c.args.passes.now c.pop.new.self c.in-Some.pass c.requires.gates
    c.in-Some.ensures

pub returns-clause-gates : goal.returns-clause-gates
returns-clause-gates g c =
    all_front (λ p. p.gate ≡ g.K.Opening.opened.gate) c.args.passes.now c.pop.new.self c.in-Some.pass c.requires.gates
    c.in-Some.ensures
