use Rattle.std.proofs.Common.{◌+◌, arith}
use Rattle.version_tree.proofs.Changes.{room_there, behind_made}
use Rattle.version_tree.proofs.pages.change_behind.Goals as goal

pub page_at-requires : goal.page_at-requires
page_at-requires c = room_there c.args.pages.now _ _ c.requires.room

pub returns-clause-change : goal.returns-clause-change
returns-clause-change c =
    (behind_made c.args.pages.now c.args.place (c.args.place + 1) _ c.page_at.result.now c.args.left.now c.in_ok-bundles.bundles c.requires.keeps c.requires.size
    c.page_at.ensures c.requires.room (omega arith) (omega arith) c.in_ok-bundles.ensures).change

pub returns-clause-bundles : goal.returns-clause-bundles
returns-clause-bundles c =
    (behind_made c.args.pages.now c.args.place (c.args.place + 1) _ c.page_at.result.now c.args.left.now c.in_ok-bundles.bundles c.requires.keeps c.requires.size
    c.page_at.ensures c.requires.room (omega arith) (omega arith) c.in_ok-bundles.ensures).bundles
