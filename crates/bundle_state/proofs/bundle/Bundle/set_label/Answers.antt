use Rattle.std.proofs.Common.{◌≡◌, Some, rules}
use Rattle.bundle_state.specs.Bundle.{place_of}
use Rattle.bundle_state.proofs.ChangedKept.{place_within, label_kept}
use Rattle.bundle_state.proofs.bundle.Bundle.set_label.Goals as goal

pub set_label-requires-clause-level : goal.set_label-requires-clause-level
set_label-requires-clause-level c =
    let is : place_of c.self.inside.levels c.args.id.0 ≡ Some (c.in-Some.level, c.in-Some.position) = search rules in
    (place_within c.args.id.0 c.self.inside.levels c.in-Some.level c.in-Some.position is).0

pub set_label-requires-clause-position : goal.set_label-requires-clause-position
set_label-requires-clause-position c =
    let is : place_of c.self.inside.levels c.args.id.0 ≡ Some (c.in-Some.level, c.in-Some.position) = search rules in
    (place_within c.args.id.0 c.self.inside.levels c.in-Some.level c.in-Some.position is).1

pub invariant_of-self-2 : goal.invariant_of-self-2
invariant_of-self-2 c =
    let is : place_of c.self.inside.levels c.args.id.0 ≡ Some (c.in-Some.level, c.in-Some.position) = search rules in
    label_kept _ c.args.id c.in-Some.level c.in-Some.position c.args.attribute c.args.label c.set_label.new.self c.self.inside.places is c.requires.label c.self.invariant c.in_ok-set_label.ensures.labelled
