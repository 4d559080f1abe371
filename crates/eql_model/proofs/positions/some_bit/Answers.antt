use Rattle.std.proofs.Common.{sym, ◌∙◌}
use Rattle.std.specs.List.{list_any}
use Rattle.eql_rows.specs.Inner.Flags.{flag_at}
use Rattle.eql_model.proofs.Places.{rest_found, rest_passes}
use Rattle.eql_model.proofs.positions.some_bit.Goals as goal

pub returns-then-has_bit : goal.returns-then-has_bit
returns-then-has_bit c =
    rest_found (flag_at c.args.at) c.args.rows.now c.loop-upper.upper c.row.result.now (list_any (flag_at c.args.at) c.args.rows.now)
    c.loop-upper.invariant c.row.ensures (sym c.has_bit.ensures ∙ c.if-has_bit.true)

pub loop-upper-preserved : goal.loop-upper-preserved
loop-upper-preserved c =
    rest_passes (flag_at c.args.at) c.args.rows.now c.loop-upper.upper c.row.result.now (list_any (flag_at c.args.at) c.args.rows.now)
    c.loop-upper.invariant c.row.ensures (sym c.has_bit.ensures ∙ c.if-has_bit.false)
