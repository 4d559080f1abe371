use Rattle.eql_model.specs.Inner.Bits.{row_counts}
use Rattle.eql_model.proofs.Places.{flags_step}
use Rattle.eql_model.proofs.positions.count_flags.Goals as goal

pub loop-upper-preserved : goal.loop-upper-preserved
loop-upper-preserved c =
    flags_step (row_counts c.args.compare c.args.number) c.args.rows.now c.loop-upper.upper c.row.result.now c.loop-upper.flags
    c.push.new.self c.row_counts.result c.row.ensures c.loop-upper.invariant c.row_counts.ensures c.in_ok-push.ensures.ok
