use Rattle.std.proofs.Common.{arith}
use Rattle.sample_time.proofs.Powers.{ten_to_38, product_past}
use Rattle.sample_time.proofs.significand.shifted.Goals as goal

pub returns-then-places-gt38 : goal.returns-then-places-gt38
returns-then-places-gt38 c =
    omega (arith, product_past c.args.digits c.args.places (omega arith) (omega arith))

pub pow-requires : goal.pow-requires
pow-requires c = omega (arith, ten_to_38 c.args.places (omega arith))
