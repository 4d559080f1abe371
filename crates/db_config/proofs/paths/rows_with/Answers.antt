use Rattle.std.proofs.Common.{ℕ, ◌∷◌}
use Rattle.db_config.specs.Inner.Above.{above_row}
use Rattle.db_config.proofs.Tables.{table_step}
use Rattle.db_config.proofs.paths.rows_with.Goals as goal

pub loop-upper-preserved : goal.loop-upper-preserved
loop-upper-preserved c =
    table_step (λ (upper : ℕ). above_row (c.args.def.now ∷ c.args.defs.now) c.args.count upper) c.loop-upper.upper c.loop-upper.made c.push.new.self _
    c.loop-upper.invariant c.in_ok-row_with.ensures c.in_ok-push.ensures.ok
