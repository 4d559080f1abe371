use Rattle.std.proofs.Common.{sym, ap, ◌∙◌}
use Rattle.version_gate.specs.Inner.Snapshots.{entry_of}
use Rattle.version_gate.proofs.Numbers.{numbered_more}
use Rattle.version_gate.proofs.publisher.Publisher.publish.Goals as goal

pub new-requires-clause-numbered : goal.new-requires-clause-numbered
new-requires-clause-numbered g c =
    let list = ap (λ s. s.log) c.again.ensures ∙ c.add_entry.ensures.list in
    let next = rw (sym c.in-Some.ensures.value) at c.self.invariant.5 in
    rw list (numbered_more c.self.inside.number c.self.inside.seen.log (entry_of c.in-Some.next) c.self.invariant.4 next)
