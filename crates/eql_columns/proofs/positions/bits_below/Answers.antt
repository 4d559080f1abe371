use Rattle.std.proofs.Common.{take, sym}
use Rattle.std.proofs.lemmas.Option.{get_or_from_slice_get, slice_get_within}
use Rattle.eql_columns.proofs.Bits.{any_none, any_step, any_wide}
use Rattle.eql_columns.proofs.Standing.{row_wide}
use Rattle.eql_columns.proofs.positions.bits_below.Goals as goal

pub join_into-requires : goal.join_into-requires
join_into-requires c =
    any_wide c.args.width c.args.rows.now (take c.loop-upper.upper c.args.rows.now) c.loop-upper.upper c.row.result.now c.loop-upper.any
    c.loop-upper.invariant c.requires.wide (slice_get_within c.args.rows.now c.loop-upper.upper c.row.result.now c.row.ensures)
    (sym (get_or_from_slice_get c.args.rows.now c.loop-upper.upper c.row.result.now c.row.result.now c.row.ensures))

pub loop-upper-init : goal.loop-upper-init
loop-upper-init c = any_none c.args.width _ c.args.rows.now c.in_ok-any.ensures

pub loop-upper-preserved : goal.loop-upper-preserved
loop-upper-preserved c =
    any_step c.args.width c.args.rows.now c.loop-upper.upper c.row.result.now c.loop-upper.any c.join_into.new.into c.loop-upper.invariant
    (slice_get_within c.args.rows.now c.loop-upper.upper c.row.result.now c.row.ensures)
    (sym (get_or_from_slice_get c.args.rows.now c.loop-upper.upper c.row.result.now c.row.result.now c.row.ensures))
    (row_wide c.args.rows.now c.args.width c.loop-upper.upper c.row.result.now c.requires.wide c.row.ensures) c.join_into.ensures
