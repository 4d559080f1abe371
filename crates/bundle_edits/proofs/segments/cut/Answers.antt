use Rattle.std.proofs.Common.{◌≡◌, length, None, Result, sym, subst, arith}
use Rattle.emu_names.specs.Inner.Gives.{GivesOrBroken}
use Rattle.emu_names.specs.declared.rules.Broken.{Broken}
use Rattle.bundle_state.specs.Bundle.{BundleParts}
use Rattle.bundle_state.specs.Built.{FitsConfig}
use Rattle.bundle_state.specs.Changed.{item_added}
use Rattle.emu_names.specs.Steps.{onward}
use Rattle.bundle_state.proofs.ChangedKept.{time_fits}
use Rattle.bundle_edits.proofs.Next.{level_count, labels_still, retimed_few}
use Rattle.bundle_edits.proofs.segments.cut.Goals as goal

pub with_item-requires-clause-fits : goal.with_item-requires-clause-fits
with_item-requires-clause-fits c =
    time_fits c.args.id c.args.before c.args.config.now c.args.bundle c.in_ok-next.next c.requires.fits c.in_ok-next.ensures

pub with_item-requires-clause-level : goal.with_item-requires-clause-level
with_item-requires-clause-level c =
    let fits : FitsConfig c.args.config.now c.in_ok-next.next =
    time_fits c.args.id c.args.before c.args.config.now c.args.bundle c.in_ok-next.next c.requires.fits c.in_ok-next.ensures in
    let same : length c.in_ok-next.next.levels ≡ length c.args.config.now.levels = level_count c.args.config.now c.in_ok-next.next fits in
    let low = c.requires.level in
    omega arith

pub with_item-requires-clause-labels : goal.with_item-requires-clause-labels
with_item-requires-clause-labels c =
    let fits : FitsConfig c.args.config.now c.in_ok-next.next =
    time_fits c.args.id c.args.before c.args.config.now c.args.bundle c.in_ok-next.next c.requires.fits c.in_ok-next.ensures in
    labels_still c.args.config.now c.args.bundle c.in_ok-next.next c.args.level c.args.behind.labels c.requires.fits fits c.requires.labels

pub with_item-requires-clause-room : goal.with_item-requires-clause-room
with_item-requires-clause-room c =
    let few = retimed_few c.args.bundle c.in_ok-next.next c.args.id c.args.before c.in_ok-next.ensures in
    let room = c.requires.room in
    omega arith

pub returns : goal.returns
returns c =
    subst (λ (r : Result BundleParts Broken). GivesOrBroken c.with_item.result (onward r (item_added c.args.level None c.args.behind)))
    (sym c.in_ok-next.ensures)
    c.with_item.ensures
