use Rattle.std.proofs.Common.{arith}
use Rattle.hier_closure.proofs.Tables.{made_rank}
use Rattle.hier_closure.proofs.levels.add_rank.Goals as goal

pub returns-clause-made : goal.returns-clause-made
returns-clause-made c =
    made_rank c.args.bundle.now c.args.between.0 c.args.between.1 c.args.rank c.loop-level.level c.loop-level.table.items (omega arith) c.loop-level.invariant.1
