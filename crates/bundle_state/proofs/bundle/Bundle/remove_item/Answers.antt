use Rattle.std.proofs.Common.{◌≡◌, Some, rules}
use Rattle.bundle_state.specs.Bundle.{place_of}
use Rattle.bundle_state.proofs.ChangedKept.{place_within, take_kept}
use Rattle.bundle_state.proofs.bundle.Bundle.remove_item.Goals as goal

pub take_out-requires-clause-level : goal.take_out-requires-clause-level
take_out-requires-clause-level c =
    let is : place_of c.self.inside.levels c.args.id.0 ≡ Some (c.in-Some.level, c.in-Some.position) = search rules in
    (place_within c.args.id.0 c.self.inside.levels c.in-Some.level c.in-Some.position is).0

pub take_out-requires-clause-position : goal.take_out-requires-clause-position
take_out-requires-clause-position c =
    let is : place_of c.self.inside.levels c.args.id.0 ≡ Some (c.in-Some.level, c.in-Some.position) = search rules in
    (place_within c.args.id.0 c.self.inside.levels c.in-Some.level c.in-Some.position is).1

pub invariant_of-self-2 : goal.invariant_of-self-2
invariant_of-self-2 c =
    let is : place_of c.self.inside.levels c.args.id.0 ≡ Some (c.in-Some.level, c.in-Some.position) = search rules in
    take_kept _ c.args.id c.in-Some.level c.in-Some.position c.take_out.new.levels c.take_out.new.links c.take_out.new.places is c.self.invariant.rules
    c.in_ok-take_out.ensures.removed c.in_ok-take_out.ensures.unlinked c.in_ok-take_out.ensures.forgotten
