use Rattle.std.proofs.Common.{arith}
use Rattle.sample_time.proofs.Powers.{product_fits, product_large}
use Rattle.sample_time.proofs.sample.multiplied.Goals as goal

-- src/sample.rt:52:9
pub returns-then-places-gt12 : goal.returns-then-places-gt12
returns-then-places-gt12 c =
    omega (arith, product_large c.args.count c.args.places (omega arith) (omega arith))

-- src/sample.rt:54:19
pub overflow_mul-product : goal.overflow_mul-product
overflow_mul-product c =
    rw c.pow.ensures (record { fits = product_fits c.args.count c.args.places (omega arith) (omega arith) })
