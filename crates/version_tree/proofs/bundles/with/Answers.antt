use Rattle.std.proofs.Common.{◌≡◌, ◌++◌, ◌∷◌, ◌∙◌, List, sym, ap, subst, take, drop}
use Rattle.bundle_state.specs.Bundle.{BundleParts}
use Rattle.bundle_index.specs.Index.{IndexParts}
use Rattle.version_tree.specs.Inner.Version.{put_indexed}
use Rattle.version_tree.specs.Inner.Places.{IsAtMostOneMore}
use Rattle.version_tree.proofs.Elements.{if_ok}
use Rattle.version_tree.proofs.Gaps.{put_size}
use Rattle.version_tree.proofs.bundles.with.Goals as goal

pub returns-clause-bundles : goal.returns-clause-bundles
returns-clause-bundles c =
    let own : c.args.new.bundle.key ≡ c.key.result.now = sym (c.key.ensures ∙ ap (λ (b : BundleParts). b.key) c.bundle.ensures) in
    if_ok
    (λ (made : List IndexParts). made ≡ take c.gap_for-gap.result.from c.args.bundles.now ++ (c.as_slice.result.now ++ drop c.gap_for-gap.result.to c.args.bundles.now))
    (λ (made : List IndexParts). made ≡ put_indexed c.args.new c.args.bundles.now)
    (λ made is. is
    ∙ ap (λ (zs : List IndexParts). take c.gap_for-gap.result.from c.args.bundles.now ++ (zs ++ drop c.gap_for-gap.result.to c.args.bundles.now))
    (c.as_slice.ensures ∙ c.in_ok-new.ensures)
    ∙ sym (c.gap_for-gap.ensures.put c.args.new own))
    c.spliced.result c.spliced.ensures

pub returns-clause-size : goal.returns-clause-size
returns-clause-size c =
    if_ok
    (λ (made : List IndexParts). made ≡ take c.gap_for-gap.result.from c.args.bundles.now ++ (c.as_slice.result.now ++ drop c.gap_for-gap.result.to c.args.bundles.now))
    (λ (made : List IndexParts). IsAtMostOneMore c.args.bundles.now made)
    (λ made is. subst (λ (zs : List IndexParts). IsAtMostOneMore c.args.bundles.now zs)
    (sym (is
    ∙ ap (λ (zs : List IndexParts). take c.gap_for-gap.result.from c.args.bundles.now ++ (zs ++ drop c.gap_for-gap.result.to c.args.bundles.now))
    (c.as_slice.ensures ∙ c.in_ok-new.ensures)))
    (put_size c.key.result.now c.args.bundles.now c.gap_for-gap.result.from c.gap_for-gap.result.to c.args.new c.gap_for-gap.ensures))
    c.spliced.result c.spliced.ensures
