use Rattle.std.proofs.Common.{ℕ, false, refl}
use Rattle.db_config.proofs.Tables.{table_step}
use Rattle.db_config.proofs.paths.empty_row.Goals as goal

pub loop-preserved : goal.loop-preserved
loop-preserved c = table_step (λ (n : ℕ). false) c.loop.counter c.loop.row c.push.new.self false c.loop.invariant refl c.in_ok-push.ensures.ok
