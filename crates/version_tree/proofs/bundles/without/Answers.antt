use Rattle.std.proofs.Common.{◌≡◌, ◌++◌, [], ◌∙◌, List, suc, length, sym, ap, take, drop}
use Rattle.bundle_index.specs.Index.{IndexParts}
use Rattle.version_tree.specs.Inner.Version.{others}
use Rattle.version_tree.proofs.Elements.{if_ok}
use Rattle.version_tree.proofs.Gaps.{taken_size}
use Rattle.version_tree.proofs.bundles.without.Goals as goal

pub returns-clause-bundles : goal.returns-clause-bundles
returns-clause-bundles c =
    if_ok
    (λ (made : List IndexParts). made ≡ take c.gap_for-gap.result.from c.args.bundles.now ++ ([] ++ drop c.gap_for-gap.result.to c.args.bundles.now))
    (λ (made : List IndexParts). made ≡ others c.args.key.now c.args.bundles.now)
    (λ made is. is ∙ sym c.gap_for-gap.ensures.taken)
    c.spliced.result c.spliced.ensures

pub returns-clause-size : goal.returns-clause-size
returns-clause-size c =
    if_ok
    (λ (made : List IndexParts). made ≡ take c.gap_for-gap.result.from c.args.bundles.now ++ ([] ++ drop c.gap_for-gap.result.to c.args.bundles.now))
    (λ (made : List IndexParts). suc (length made) ≡ length c.args.bundles.now)
    (λ made is. ap (λ (zs : List IndexParts). suc (length zs)) is
    ∙ taken_size c.args.key.now c.args.bundles.now c.gap_for-gap.result.from c.gap_for-gap.result.to c.gap_for-gap.ensures c.requires.there)
    c.spliced.result c.spliced.ensures
