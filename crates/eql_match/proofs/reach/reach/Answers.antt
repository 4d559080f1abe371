use Rattle.std.proofs.Common.{length, arith}
use Rattle.eql_match.proofs.Near.{fits_rises, reach_more, reach_all}
use Rattle.eql_match.proofs.reach.reach.Goals as goal

pub loop-row-preserved : goal.loop-row-preserved
loop-row-preserved c =
    reach_more c.args.rows.now c.args.upper.first c.loop-row.row c.row.result.now c.loop-row.reach c.widened-reach.result
    c.loop-row.invariant c.widened-reach.ensures c.row.ensures (omega arith)

pub returns : goal.returns
returns c =
    let rises = fits_rises (length c.args.rows.now) c.args.upper c.requires in
    reach_all c.args.rows.now c.args.upper c.loop-row.row c.loop-row.reach c.loop-row.invariant (omega arith)
