use Rattle.std.proofs.Common.{ℕ, []}
use Rattle.db_config.specs.Inner.Above.{above_row}
use Rattle.db_config.proofs.Tables.{table_step}
use Rattle.db_config.proofs.paths.empty_rows.Goals as goal

pub loop-preserved : goal.loop-preserved
loop-preserved c =
    table_step (λ (upper : ℕ). above_row [] c.args.count upper) c.loop.counter c.loop.rows c.push.new.self _ c.loop.invariant c.in_ok-empty_row.ensures
    c.in_ok-push.ensures.ok
