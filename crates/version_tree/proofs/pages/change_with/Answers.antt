use Rattle.std.proofs.Common.{◌≡◌, ℕ, ◌∙◌, sym, ap, subst, arith}
use Rattle.emu_names.specs.declared.names.BundleKey.{BundleKey}
use Rattle.bundle_state.specs.Bundle.{BundleParts}
use Rattle.version_tree.specs.Inner.Places.{IsPageFor}
use Rattle.version_tree.proofs.Leaves.{page_rising}
use Rattle.version_tree.proofs.Changes.{put_made, put_holds}
use Rattle.version_tree.proofs.pages.change_with.Goals as goal

pub with-requires : goal.with-requires
with-requires c =
    page_rising c.args.pages.now c.page_for-place.result c.page_at.result.now c.page_at.ensures c.requires.rising

pub returns-clause-change : goal.returns-clause-change
returns-clause-change c =
    put_made c.args.pages.now c.page_for-place.result _ c.page_at.result.now c.in_ok-bundles.bundles c.page_at.ensures c.requires (omega arith)
    c.in_ok-bundles.ensures.size

pub returns-clause-bundles : goal.returns-clause-bundles
returns-clause-bundles c =
    let own : c.key.result.now ≡ c.args.new.bundle.key = c.key.ensures ∙ ap (λ (b : BundleParts). b.key) c.bundle.ensures in
    put_holds c.args.new c.args.pages.now c.page_for-place.result _ c.page_at.result.now c.in_ok-bundles.bundles
    (subst (λ (k : BundleKey). IsPageFor k c.args.pages.now c.page_for-place.result) own c.page_for-place.ensures)
    c.page_at.ensures (omega arith) c.in_ok-bundles.ensures.bundles
