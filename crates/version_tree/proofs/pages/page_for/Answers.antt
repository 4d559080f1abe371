use Rattle.std.proofs.Common.{◌≡◌, true, false, List, arith}
use Rattle.bundle_index.specs.Index.{IndexParts}
use Rattle.version_tree.specs.Inner.Pages.{starts_by}
use Rattle.version_tree.proofs.Elements.{each_low, each_high}
use Rattle.version_tree.proofs.Leaves.{page_found}
use Rattle.version_tree.proofs.pages.page_for.Goals as goal

pub returns : goal.returns
returns c =
    page_found c.args.key.now c.args.pages.now c.pages_started.result _ c.saturating_sub.ensures c.requires.keeps.sizes c.requires.keeps.rising
    c.requires.some c.pages_started.ensures.within
    (each_low (λ (p : List IndexParts). starts_by c.args.key.now p ≡ true) c.args.pages.now c.pages_started.result c.pages_started.ensures.splits.0)
    (each_high (λ (p : List IndexParts). starts_by c.args.key.now p ≡ false) c.args.pages.now c.pages_started.result c.pages_started.ensures.splits.1)
