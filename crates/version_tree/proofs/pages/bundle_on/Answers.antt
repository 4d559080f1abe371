use Rattle.std.proofs.Common.{length, sym, ◌∙◌, eqb-true}
use Rattle.version_tree.proofs.Leaves.{found_on, page_rising}
use Rattle.version_tree.proofs.Changes.{none_on}
use Rattle.version_tree.proofs.pages.bundle_on.Goals as goal

pub returns-then-is_empty : goal.returns-then-is_empty
returns-then-is_empty c =
    sym (none_on c.args.key.now c.args.pages.now (eqb-true (length c.args.pages.now) 0 (sym c.is_empty.ensures ∙ c.if-is_empty.true)))

pub bundle_of-requires : goal.bundle_of-requires
bundle_of-requires c =
    page_rising c.args.pages.now c.page_for-place.result c.page_at.result.now c.page_at.ensures c.requires.rising

pub returns : goal.returns
returns c =
    c.bundle_of.ensures
    ∙ sym (found_on c.args.key.now c.args.pages.now c.page_for-place.result c.page_at.result.now c.page_for-place.ensures c.page_at.ensures)
