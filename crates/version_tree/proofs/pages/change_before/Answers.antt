use Rattle.std.proofs.Common.{arith}
use Rattle.version_tree.proofs.Changes.{before_made}
use Rattle.version_tree.proofs.pages.change_before.Goals as goal

pub page_at-requires : goal.page_at-requires
page_at-requires c = let lt = c.requires.size.within in omega (arith, lt)

pub returns-clause-change : goal.returns-clause-change
returns-clause-change c =
    let low = c.requires.first in
    (before_made c.args.pages.now c.args.place _ _ c.page_at.result.now c.args.left.now c.in_ok-bundles.bundles c.requires.keeps c.requires.size
    c.page_at.ensures c.requires.room (omega (arith, low)) (omega (arith, low)) c.in_ok-bundles.ensures).change

pub returns-clause-bundles : goal.returns-clause-bundles
returns-clause-bundles c =
    let low = c.requires.first in
    (before_made c.args.pages.now c.args.place _ _ c.page_at.result.now c.args.left.now c.in_ok-bundles.bundles c.requires.keeps c.requires.size
    c.page_at.ensures c.requires.room (omega (arith, low)) (omega (arith, low)) c.in_ok-bundles.ensures).bundles
