use Rattle.std.proofs.Common.{sym, ap, ◌∙◌}
use Rattle.version_gate.proofs.Agreeing.{shows}
use Rattle.version_gate.proofs.publisher.show_in.Goals as goal

pub show-requires : goal.show-requires
show-requires g c seat v later is =
    let gate = rw (sym c.in-Some.ensures.value) at c.requires.1 in
    shows seat v c.in-Some.now later (ap (λ f. f.gate) is ∙ sym gate)
