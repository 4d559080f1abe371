use Rattle.std.proofs.Common.{sym, ◌∙◌}
use Rattle.hier_closure.proofs.Passes.{kept_rows}
use Rattle.hier_closure.proofs.closure.Closure.kept_at.Goals as goal

pub returns : goal.returns
returns c =
    kept_rows c.args.config.now c.args.all.now c.args.upper c.args.lower c.rows_at.result (sym c.any_between.ensures ∙ c.if-any_between.false)
    c.rows_at.ensures
