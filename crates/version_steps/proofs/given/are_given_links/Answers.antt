use Rattle.std.proofs.Common.{rules, ◌≡◌}
use Rattle.bundle_state.specs.Linked.{pair_of}
use Rattle.version_steps.proofs.Same.{pair_more}
use Rattle.version_steps.proofs.given.are_given_links.Goals as goal

pub loop-place-preserved : goal.loop-place-preserved
loop-place-preserved c =
    let is : c.get-other.result.now ≡ pair_of c.get-link.result.now = search rules in
    pair_more c.args.links.now c.args.given.now c.loop-place.place c.get-link.result.now c.get-other.result.now c.loop-place.invariant
    c.get-link.ensures c.get-other.ensures is
