use Rattle.std.proofs.Common.{◌^◌, arith, sym}
use Rattle.sample_time.proofs.Powers.{ten_positive, ten_to_26, ten_past_26}
use Rattle.sample_time.proofs.Quotients.{ceil_of_part}
use Rattle.sample_time.proofs.sample.divided_up.Goals as goal

-- src/sample.rt:64:9
pub returns-else-count-eq0 : goal.returns-else-count-eq0
returns-else-count-eq0 c =
    let part = ceil_of_part c.args.count (10 ^ c.args.places) (omega arith) (omega (arith, ten_past_26 c.args.places (omega arith))) in
    (omega arith, sym part)

-- src/sample.rt:66:35
pub pow-requires : goal.pow-requires
pow-requires c = omega (arith, ten_to_26 c.args.places (omega arith))

-- src/sample.rt:66:9
pub div_ceil-quotient-requires : goal.div_ceil-quotient-requires
div_ceil-quotient-requires c = rw c.pow.ensures (ten_positive c.args.places)
