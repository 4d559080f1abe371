use Rattle.std.proofs.Common.{◌∙◌, sym, ap, Some, arith}
use Rattle.bundle_index.specs.Index.{IndexParts}
use Rattle.version_tree.proofs.Elements.{found_at}
use Rattle.version_tree.proofs.bundles.bundle_of.Goals as goal

pub returns-then-gap : goal.returns-then-gap
returns-then-gap c =
    let low = c.if-gap.true in
    let within = c.gap_for-gap.ensures.within in
    sym (c.gap_for-gap.ensures.there c.if-gap.true
    ∙ found_at c.args.bundles.now c.gap_for-gap.result.from c.index-bundles-gap.result c.index-bundles-gap.is (omega (arith, low, within))
    ∙ ap (λ (x : IndexParts). Some x) (sym c.as_ref.ensures))

pub returns-else-gap : goal.returns-else-gap
returns-else-gap c = sym (c.gap_for-gap.ensures.absent c.if-gap.false)
