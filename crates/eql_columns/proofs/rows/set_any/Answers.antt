use Rattle.std.proofs.Common.{length, take}
use Rattle.eql_columns.proofs.Bits.{any_none, any_step, any_wide, as_wide}
use Rattle.eql_columns.proofs.rows.set_any.Goals as goal

pub or_into-requires : goal.or_into-requires
or_into-requires c =
    any_wide (length c.args.any.now) c.args.rows.now (take c.loop-row.row-index c.args.rows.now) c.loop-row.row-index c.row-item.result
    c.loop-row.any c.loop-row.invariant c.requires.wide c.loop-row-test.true c.row-item.is

pub loop-row-init : goal.loop-row-init
loop-row-init c = any_none (length c.args.any.now) c.args.any.now c.args.rows.now c.requires.unset

pub loop-row-preserved : goal.loop-row-preserved
loop-row-preserved c =
    any_step (length c.args.any.now) c.args.rows.now c.loop-row.row-index c.row-item.result c.loop-row.any c.or_into.new.into
    c.loop-row.invariant c.loop-row-test.true c.row-item.is
    (as_wide (length c.args.any.now) c.args.rows.now c.loop-row.row-index c.row-item.result c.requires.wide c.loop-row-test.true c.row-item.is)
    c.or_into.ensures
