use Rattle.std.proofs.Common.{◌<◌, ◌++◌, length, arith, string_bytes, true}
use Rattle.segment_list.specs.Inner.Pieces.{row_texts}
use Rattle.segment_list.proofs.Listed.{next_row}
use Rattle.segment_list.proofs.print.push_each.Goals as goal

pub loop-row-preserved : goal.loop-row-preserved
loop-row-preserved c =
    let lt : c.loop-row.row-index < length c.args.rows.now = omega arith in
    next_row (string_bytes c.loop-row.out) (string_bytes c.push_row.new.out) (string_bytes c.args.out.now
    ++ row_texts true c.args.rows.now)
    c.args.rows.now c.loop-row.row-index c.row-item.result lt c.row-item.is c.in_ok-push_row.ensures
    c.loop-row.invariant
