use Rattle.std.proofs.Common.{length, sym, ◌∙◌}
use Rattle.eql_columns.proofs.Standing.{placed_none, placed_more, row_wide}
use Rattle.eql_columns.proofs.positions.set_placed.Goals as goal

pub add_placed-requires : goal.add_placed-requires
add_placed-requires c =
    c.loop-upper.invariant.long
    ∙ sym (row_wide c.args.rows.now (length c.args.placed.now) c.loop-upper.upper c.row.result.now c.requires.wide c.row.ensures)

pub loop-upper-init : goal.loop-upper-init
loop-upper-init c = placed_none c.args.place c.args.rows.now (length c.args.placed.now) c.args.placed.now c.requires.unset

pub loop-upper-preserved : goal.loop-upper-preserved
loop-upper-preserved c =
    placed_more c.args.place c.args.rows.now (length c.args.placed.now) c.loop-upper.upper c.row.result.now c.loop-upper.placed
    c.add_placed.new.placed c.loop-upper.invariant c.row.ensures
    (row_wide c.args.rows.now (length c.args.placed.now) c.loop-upper.upper c.row.result.now c.requires.wide c.row.ensures)
    c.in_ok-add_placed.ensures
