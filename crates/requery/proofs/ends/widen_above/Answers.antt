use Rattle.std.proofs.Common.{◌+◌, refl}
use Rattle.requery.proofs.Kin.{row_more}
use Rattle.requery.proofs.ends.widen_above.Goals as goal

pub loop-at-preserved : goal.loop-at-preserved
loop-at-preserved c =
    row_more c.args.up.now c.loop-at.at (c.loop-at.at + 1) c.row.result.now c.args.stretches.now c.loop-at.stretches
    c.widen_by.new.stretches refl c.row.ensures c.loop-at.invariant c.widen_by.ensures
