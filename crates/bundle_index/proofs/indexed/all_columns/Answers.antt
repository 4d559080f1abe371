use Rattle.std.proofs.Common.{arith}
use Rattle.bundle_index.proofs.Asked.{filled_more, all_filled}
use Rattle.bundle_index.proofs.indexed.all_columns.Goals as goal

pub loop-level-preserved : goal.loop-level-preserved
loop-level-preserved c =
    rw c.in_ok-push.ensures.ok (filled_more c.loop-level.labels c.of_level.new.labels c.args.bundle.now.levels
    c.loop-level.level c.loop-level.all c.level.result.now c.in_ok-columns.columns c.loop-level.invariant
    c.in_ok-columns.ensures.grown c.level.ensures.level c.in_ok-columns.ensures.columns)

pub returns : goal.returns
returns c =
    all_filled c.loop-level.labels c.args.bundle.now.levels c.loop-level.level c.loop-level.all c.loop-level.invariant
    (omega arith)
