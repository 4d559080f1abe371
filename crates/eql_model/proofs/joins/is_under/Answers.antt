use Rattle.std.proofs.Common.{◌+◌, sym, ◌∙◌}
use Rattle.eql_model.specs.Inner.Joins.{bit_at, is_under}
use Rattle.eql_model.proofs.Ranges.{any_passes}
use Rattle.eql_model.proofs.joins.is_under.Goals as goal

pub loop-row-preserved : goal.loop-row-preserved
loop-row-preserved c =
    any_passes (λ i. bit_at c.args.rows.now i c.args.place) c.loop-row.row (c.args.upper.last + 1)
    (is_under c.args.rows.now c.args.upper c.args.place) c.loop-row.invariant c.loop-row-test.true
    (sym c.bit_at.ensures ∙ c.if-bit_at.false)
