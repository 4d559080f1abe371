use Rattle.std.proofs.Common.{sym, ◌∙◌}
use Rattle.hier_closure.proofs.Joins.{ids_count}
use Rattle.hier_closure.proofs.Passes.{no_link}
use Rattle.hier_closure.proofs.linked.rows_of.Goals as goal

pub loop-place-init : goal.loop-place-init
loop-place-init c =
    let levels = c.args.bundle.now.levels in
    c.in_ok-rows.ensures
    ∙ no_link c.args.bundle.now c.args.upper c.args.lower c.len-count.result c.len-width.result
    (ids_count levels c.args.upper c.level.result.now c.level.ensures.level ∙ sym c.len-count.ensures.length)
    (ids_count levels c.args.lower c.level-2.result.now c.level-2.ensures.level ∙ sym c.len-width.ensures.length)
