use Rattle.std.proofs.Common.{◌≡◌, ℕ, ◌<◌, ◌≤◌, ◌+◌, ◌-◌, ◌∙◌, List, Some, length, sym, ap, subst, arith}
use Rattle.std.specs.List.{slice_get}
use Rattle.bundle_index.specs.Index.{IndexParts}
use Rattle.version_tree.proofs.Elements.{found_at}
use Rattle.version_tree.proofs.Leaves.{left_found, left_next}
use Rattle.version_tree.proofs.pages.bundle_at.Goals as goal

pub returns-then-left-bundles : goal.returns-then-left-bundles
returns-then-left-bundles c =
    let same : c.as_slice-bundles.result.now ≡ c.page-item.result = c.as_slice-bundles.ensures.bundles ∙ c.as_ref.ensures in
    left_found c.args.pages.now c.args.place c.loop-page.page-index c.loop-page.left c.page-item.result c.loop-page.invariant
    (found_at c.args.pages.now c.loop-page.page-index c.page-item.result c.page-item.is c.loop-page-test.true)
    (subst (λ (p : List IndexParts). c.loop-page.left < length p) same c.if-left-bundles.true)
    ∙ ap (λ (p : List IndexParts). slice_get p c.loop-page.left) (sym same)
    ∙ found_at c.as_slice-bundles.result.now c.loop-page.left c.index-bundles-left.result c.index-bundles-left.is c.if-left-bundles.true
    ∙ ap (λ (x : IndexParts). Some x) (sym c.as_ref-then-left-bundles.ensures)

pub loop-page-preserved : goal.loop-page-preserved
loop-page-preserved c =
    let same : c.as_slice-bundles.result.now ≡ c.page-item.result = c.as_slice-bundles.ensures.bundles ∙ c.as_ref.ensures in
    let long : length c.as_slice-bundles.result.now ≡ length c.page-item.result = ap (λ (p : List IndexParts). length p) same in
    let high = c.if-left-bundles.false in
    left_next c.args.pages.now c.args.place c.loop-page.page-index c.loop-page.left _ _ c.page-item.result c.loop-page.invariant
    (found_at c.args.pages.now c.loop-page.page-index c.page-item.result c.page-item.is c.loop-page-test.true)
    (omega (arith, long, high)) (omega arith) (omega (arith, long, high))
