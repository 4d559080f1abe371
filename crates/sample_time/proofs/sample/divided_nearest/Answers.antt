use Rattle.std.proofs.Common.{◌^◌, arith, sym}
use Rattle.sample_time.proofs.Powers.{ten_positive, ten_to_26, ten_past_26}
use Rattle.sample_time.proofs.Quotients.{nearest_of_part}
use Rattle.sample_time.proofs.sample.divided_nearest.Goals as goal

-- src/sample.rt:76:9
pub returns-then-places-gt26 : goal.returns-then-places-gt26
returns-then-places-gt26 c =
    let part = nearest_of_part c.args.count (10 ^ c.args.places) (omega (arith, ten_past_26 c.args.places (omega arith))) in
    (omega arith, sym part)

-- src/sample.rt:78:9
pub pow-power-requires : goal.pow-power-requires
pow-power-requires c = omega (arith, ten_to_26 c.args.places (omega arith))

-- src/sample.rt:79:21
pub overflow_add-quotient : goal.overflow_add-quotient
overflow_add-quotient c = omega (arith, ten_to_26 c.args.places (omega arith), c.pow-power.ensures)

-- src/sample.rt:79:43
pub overflow_mul-quotient-2 : goal.overflow_mul-quotient-2
overflow_mul-quotient-2 c = omega (arith, ten_to_26 c.args.places (omega arith), c.pow-power.ensures)

-- src/sample.rt:79:20
pub nonzero_div-quotient : goal.nonzero_div-quotient
nonzero_div-quotient c = omega (arith, ten_positive c.args.places, c.pow-power.ensures)
