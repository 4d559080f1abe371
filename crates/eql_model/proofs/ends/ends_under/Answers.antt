use Rattle.std.proofs.Common.{length, arith}
use Rattle.eql_model.proofs.RowEnds.{ends_none, ends_more, ends_all, fits_rises}
use Rattle.eql_model.proofs.ends.ends_under.Goals as goal

pub loop-row-init : goal.loop-row-init
loop-row-init c = ends_none c.args.rows.now c.args.upper.first

pub loop-row-preserved : goal.loop-row-preserved
loop-row-preserved c =
    ends_more c.args.rows.now c.args.upper.first c.loop-row.row c.row.result.now c.loop-row.found c.row_ends.result
    c.round_both-found.result c.loop-row.invariant c.row.ensures (omega arith) c.row_ends.ensures c.round_both-found.ensures

pub returns : goal.returns
returns c =
    let rises = fits_rises (length c.args.rows.now) c.args.upper c.requires in
    ends_all c.args.rows.now c.args.upper c.loop-row.row c.loop-row.found c.loop-row.invariant (omega arith)
