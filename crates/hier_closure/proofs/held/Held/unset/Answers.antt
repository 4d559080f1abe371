use Rattle.std.proofs.Common.{sym, ◌∙◌}
use Rattle.hier_closure.proofs.Alike.{rows_aside}
use Rattle.hier_closure.proofs.Joins.{ids_count}
use Rattle.hier_closure.proofs.held.Held.unset.Goals as goal

pub returns-in-Ok : goal.returns-in-Ok
returns-in-Ok c =
    let bundle = c.args.bundle.now in
    rows_aside bundle c.args.upper c.args.lower c.len-count.result c.len-width.result c.in-Ok.row c.item_count-items.ensures.rules c.requires.aside
    (ids_count bundle.levels c.args.upper c.level-2.result.now c.level-2.ensures.level ∙ sym c.len-count.ensures.length)
    (ids_count bundle.levels c.args.lower c.level.result.now c.level.ensures.level ∙ sym c.len-width.ensures.length)
    c.in-Ok.ensures
