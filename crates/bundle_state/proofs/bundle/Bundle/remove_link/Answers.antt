use Rattle.bundle_state.proofs.ChangedKept.{unlink_kept}
use Rattle.bundle_state.proofs.bundle.Bundle.remove_link.Goals as goal

pub invariant_of-self : goal.invariant_of-self
invariant_of-self c =
    unlink_kept _ c.args.from c.args.to c.remove.new.links c.self.inside.places c.remove.result c.self.invariant c.remove.ensures.removed c.remove.ensures.kept
