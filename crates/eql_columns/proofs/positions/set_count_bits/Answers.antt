use Rattle.std.proofs.Common.{[], get_or, length, refl, arith}
use Rattle.eql_model.specs.Inner.Bits.{row_counts}
use Rattle.eql_columns.proofs.Bits.{filled_first}
use Rattle.eql_columns.proofs.Standing.{counts_more, counts_all}
use Rattle.eql_columns.proofs.positions.set_count_bits.Goals as goal

pub loop-upper-init : goal.loop-upper-init
loop-upper-init c =
    filled_first (λ k. row_counts c.args.compare c.args.number (get_or c.args.rows.now k [])) c.args.made.now (length c.args.rows.now) c.requires

pub row-requires : goal.row-requires
row-requires c =
    let before = c.loop-upper-test.true in
    let long = c.len-upper-end.ensures in
    let count = c.requires in
    omega arith

pub set-requires : goal.set-requires
set-requires c =
    let before = c.loop-upper-test.true in
    let long = c.len-upper-end.ensures in
    let count = c.requires in
    let now = c.loop-upper.invariant.count in
    omega arith

pub loop-upper-preserved : goal.loop-upper-preserved
loop-upper-preserved c =
    let before = c.loop-upper-test.true in
    let long = c.len-upper-end.ensures in
    let count = c.requires in
    counts_more c.args.compare c.args.number c.args.rows.now c.loop-upper.made c.set.new.self (length c.args.rows.now) c.loop-upper.upper
    c.row.result.now c.row_counts-is.result c.loop-upper.invariant (omega arith) c.row.ensures c.row_counts-is.ensures c.set.ensures

pub returns : goal.returns
returns c =
    let long = c.len-upper-end.ensures in
    let count = c.requires in
    counts_all c.args.compare c.args.number c.args.rows.now c.loop-upper.made (length c.args.rows.now) c.loop-upper.upper
    c.loop-upper.invariant refl (omega arith)
