use Rattle.std.proofs.Common.{◌≡◌, ◌∙◌, sym}
use Rattle.version_tree.specs.declared.change.Change.{Change}
use Rattle.version_tree.specs.Inner.Version.{others}
use Rattle.version_tree.specs.Inner.Pages.{bundles_on, bundles_behind}
use Rattle.version_tree.specs.Inner.Places.{bundles_but}
use Rattle.version_tree.proofs.Elements.{if_ok}
use Rattle.version_tree.proofs.Leaves.{found_on, page_rising}
use Rattle.version_tree.proofs.Changes.{one_less, others_hold}
use Rattle.version_tree.proofs.pages.change_without.Goals as goal

pub without-requires-clause-rising : goal.without-requires-clause-rising
without-requires-clause-rising c =
    page_rising c.args.pages.now c.page_for-place.result c.page_at.result.now c.page_at.ensures c.requires.keeps.rising

pub without-requires-clause-there : goal.without-requires-clause-there
without-requires-clause-there c = λ none.
    c.requires.there (found_on c.args.key.now c.args.pages.now c.page_for-place.result c.page_at.result.now c.page_for-place.ensures c.page_at.ensures ∙ none)

pub change_at-requires-clause-size : goal.change_at-requires-clause-size
change_at-requires-clause-size c =
    one_less c.args.pages.now c.page_for-place.result c.page_at.result.now c.in_ok-left.left c.page_at.ensures c.in_ok-left.ensures.size

pub returns-clause-bundles : goal.returns-clause-bundles
returns-clause-bundles c =
    if_ok
    (λ (change : Change). bundles_behind c.args.pages.now change ≡ bundles_but c.args.pages.now c.page_for-place.result c.in_ok-left.left)
    (λ (change : Change). bundles_behind c.args.pages.now change ≡ others c.args.key.now (bundles_on c.args.pages.now))
    (λ change is. is
    ∙ others_hold c.args.key.now c.args.pages.now c.page_for-place.result c.page_at.result.now c.in_ok-left.left c.page_for-place.ensures c.page_at.ensures
    c.in_ok-left.ensures.bundles)
    c.change_at.result c.change_at.ensures.bundles
