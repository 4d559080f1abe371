use Rattle.std.proofs.Common.{◌≡◌, Some, rules}
use Rattle.bundle_state.specs.Bundle.{place_of}
use Rattle.bundle_state.proofs.ChangedKept.{place_within, time_kept}
use Rattle.bundle_state.proofs.bundle.Bundle.retime.Goals as goal

pub retime-requires-clause-level : goal.retime-requires-clause-level
retime-requires-clause-level c =
    let is : place_of c.self.inside.levels c.args.id.0 ≡ Some (c.in-Some.level, c.in-Some.position) = search rules in
    (place_within c.args.id.0 c.self.inside.levels c.in-Some.level c.in-Some.position is).0

pub retime-requires-clause-position : goal.retime-requires-clause-position
retime-requires-clause-position c =
    let is : place_of c.self.inside.levels c.args.id.0 ≡ Some (c.in-Some.level, c.in-Some.position) = search rules in
    (place_within c.args.id.0 c.self.inside.levels c.in-Some.level c.in-Some.position is).1

pub invariant_of-self : goal.invariant_of-self
invariant_of-self c =
    let is : place_of c.self.inside.levels c.args.id.0 ≡ Some (c.in-Some.level, c.in-Some.position) = search rules in
    time_kept _ c.args.id c.in-Some.level c.in-Some.position c.args.time c.retime.new.self c.self.inside.places c.retime.result is c.self.invariant c.retime.ensures.fault
    c.retime.ensures.retimed c.retime.ensures.kept
