use Rattle.std.proofs.Common.{arith}
use Rattle.eql_columns.proofs.Bits.{turned_all, turned_first, turned_more}
use Rattle.eql_columns.proofs.rows.turn.Goals as goal

pub loop-at-init : goal.loop-at-init
loop-at-init c = turned_first c.args.row.now

pub get-bit-requires : goal.get-bit-requires
get-bit-requires c =
    let count = c.loop-at.invariant.count in
    let before = c.loop-at-test.true in
    let long = c.len-at-end.ensures in
    omega arith

pub set-requires : goal.set-requires
set-requires c =
    let count = c.loop-at.invariant.count in
    let before = c.loop-at-test.true in
    let long = c.len-at-end.ensures in
    omega arith

pub loop-at-preserved : goal.loop-at-preserved
loop-at-preserved c =
    turned_more c.args.row.now c.loop-at.row c.set.new.self c.loop-at.at c.get-bit.result c.loop-at.invariant c.get-bit.ensures c.set.ensures

pub returns : goal.returns
returns c =
    let long = c.len-at-end.ensures in
    turned_all c.args.row.now c.loop-at.row c.loop-at.at c.loop-at.invariant (omega arith)
