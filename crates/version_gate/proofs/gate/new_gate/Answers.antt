use Rattle.std.proofs.Common.{ap, ◌∙◌}
use Rattle.std.specs.Arc.{arc_value}
use Rattle.version_gate.specs.Lists.{entry}
use Rattle.version_gate.proofs.Numbers.{numbered_one}
use Rattle.version_gate.proofs.gate.new_gate.Goals as goal

pub new-requires-clause-numbered : goal.new-requires-clause-numbered
new-requires-clause-numbered g c =
    rw (ap (λ s. s.log) c.again.ensures ∙ c.open-seen.ensures.list) (numbered_one (entry c.args.number (arc_value c.args.opening)))
