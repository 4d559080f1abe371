use Rattle.std.proofs.Common.{◌+◌, arith}
use Rattle.version_tree.proofs.Changes.{alone_made}
use Rattle.version_tree.proofs.pages.change_alone.Goals as goal

pub returns-clause-change : goal.returns-clause-change
returns-clause-change c =
    (alone_made c.args.pages.now c.args.place (c.args.place + 1) _ c.args.left c.requires.keeps c.requires.size (omega arith) (omega arith)
    c.requires.alone.0 c.requires.alone.1).change

pub returns-clause-bundles : goal.returns-clause-bundles
returns-clause-bundles c =
    (alone_made c.args.pages.now c.args.place (c.args.place + 1) _ c.args.left c.requires.keeps c.requires.size (omega arith) (omega arith)
    c.requires.alone.0 c.requires.alone.1).bundles
