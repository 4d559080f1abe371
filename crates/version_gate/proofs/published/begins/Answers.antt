use Rattle.std.proofs.Common.{ap}
use mathlib.Core.List.{IsPrefix}
use Rattle.version_gate.proofs.Numbers.{lower_begins}
use Rattle.version_gate.proofs.published.begins.Goals as goal

pub returns : goal.returns
returns g c =
    let o = c.requires.order in
    let both = c.learn.new.self.log in
    let low : IsPrefix c.args.lower.now.log both = rw (← ap (λ s. s.log) c.again-both.ensures) c.learn.ensures.2 in
    lower_begins o.0 o.1 c.args.lower.now.log c.args.higher.now.log both o.2 o.3 low c.learn.ensures.3 o.4
