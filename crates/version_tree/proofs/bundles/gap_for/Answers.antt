use Rattle.std.proofs.Common.{◌∙◌, sym, arith}
use Rattle.version_tree.proofs.Gaps.{gap_there, gap_none}
use Rattle.version_tree.proofs.bundles.gap_for.Goals as goal

pub returns-then-has_key_at : goal.returns-then-has_key_at
returns-then-has_key_at c =
    gap_there c.args.key.now c.args.bundles.now c.bundles_before-from.result _ (omega arith) c.requires
    c.bundles_before-from.ensures.splits.0 (sym c.has_key_at.ensures ∙ c.if-has_key_at.true)

pub returns : goal.returns
returns c =
    gap_none c.args.key.now c.args.bundles.now c.bundles_before-from.result c.requires c.bundles_before-from.ensures.within
    c.bundles_before-from.ensures.splits.0 c.bundles_before-from.ensures.splits.1 (sym c.has_key_at.ensures ∙ c.if-has_key_at.false)
