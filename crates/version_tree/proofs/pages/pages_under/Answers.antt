use Rattle.std.proofs.Common.{◌≡◌, ◌∙◌, sym, subst, arith}
use Rattle.version_tree.specs.Inner.Under.{CanFitAll}
use Rattle.version_tree.proofs.Elements.{found_at}
use Rattle.version_tree.proofs.Fitting.{page_fits, pages_kept, pages_whole}
use Rattle.version_tree.proofs.pages.pages_under.Goals as goal

pub under-requires : goal.under-requires
under-requires c =
    let same : c.as_slice.result.now ≡ c.page-item.result = c.as_slice.ensures.bundles ∙ c.as_ref.ensures in
    subst (CanFitAll c.args.config.now) (sym same)
    (page_fits c.args.config.now c.args.pages.now c.pages.page-index c.page-item.result c.requires.fit
    (found_at c.args.pages.now c.pages.page-index c.page-item.result c.page-item.is c.pages-test.true))

pub returns-clause-keeps : goal.returns-clause-keeps
returns-clause-keeps c =
    let past = c.pages-test.false in
    pages_kept c.args.config.now c.pages.made c.args.pages.now
    (pages_whole c.args.config.now c.args.pages.now c.pages.made c.pages.page-index (omega (arith, past)) c.pages.invariant)
    c.requires.keeps
