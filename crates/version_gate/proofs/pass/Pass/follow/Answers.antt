use Rattle.std.proofs.Common.{ap}
use Rattle.version_gate.proofs.pass.Pass.follow.Goals as goal

pub begins-requires-clause-order : goal.begins-requires-clause-order
begins-requires-clause-order g c =
    let o = c.requires.order in
    (o.0, c.args.number, rw (ap (λ f. f.list) c.self.view_is) o.1, c.requires.numbered, o.2)
