use Rattle.std.proofs.Common.{length, refl, arith}
use Rattle.eql_columns.proofs.Tests.{held_all, label_numbered}
use Rattle.eql_columns.proofs.groups.set_held.Goals as goal

pub holds_at-is-requires-clause-number : goal.holds_at-is-requires-clause-number
holds_at-is-requires-clause-number c =
    label_numbered c.args.indexed.now.labels c.args.column.now c.args.attribute c.args.items.now c.loop-at.at c.requires.numbers
    (omega arith)

pub returns : goal.returns
returns c =
    held_all c.args.group.now c.args.attribute c.args.items.now c.loop-at.row (length c.args.items.now) c.loop-at.at
    c.loop-at.invariant.bits refl (omega arith)
