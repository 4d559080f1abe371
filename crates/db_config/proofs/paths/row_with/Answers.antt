use Rattle.std.proofs.Common.{ℕ, ◌∷◌}
use Rattle.db_config.specs.Above.{is_above}
use Rattle.db_config.proofs.Tables.{table_step}
use Rattle.db_config.proofs.paths.row_with.Goals as goal

pub loop-lower-preserved : goal.loop-lower-preserved
loop-lower-preserved c =
    table_step (λ (lower : ℕ). is_above (c.args.def.now ∷ c.args.defs.now) c.args.upper lower) c.loop-lower.lower c.loop-lower.row c.push.new.self _
    c.loop-lower.invariant c.entry_with.ensures c.in_ok-push.ensures.ok
