use Rattle.std.proofs.Common.{◌+◌, sym, ◌∙◌}
use Rattle.eql_model.specs.Inner.Joins.{is_under, bits_cover}
use Rattle.eql_model.proofs.Ranges.{all_passes, all_broken}
use Rattle.eql_model.proofs.joins.bits_cover.Goals as goal

pub returns-then-not-is_under : goal.returns-then-not-is_under
returns-then-not-is_under c =
    all_broken (is_under c.args.rows.now c.args.upper) c.loop-place.place (c.args.lower.last + 1)
    (bits_cover c.args.rows.now c.args.upper c.args.lower) c.loop-place.invariant c.loop-place-test.true
    (sym c.is_under.ensures ∙ c.if-not-is_under.true)

pub loop-place-preserved : goal.loop-place-preserved
loop-place-preserved c =
    all_passes (is_under c.args.rows.now c.args.upper) c.loop-place.place (c.args.lower.last + 1)
    (bits_cover c.args.rows.now c.args.upper c.args.lower) c.loop-place.invariant c.loop-place-test.true
    (sym c.is_under.ensures ∙ c.if-not-is_under.false)
