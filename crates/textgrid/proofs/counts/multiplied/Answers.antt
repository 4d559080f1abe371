use Rattle.std.proofs.Common.{arith}
use Rattle.textgrid.proofs.Powers.{product_grows, product_large}
use Rattle.textgrid.proofs.counts.multiplied.Goals as goal
use Rattle.textgrid.proofs.counts.multiplied.Goals.{then-digits-gt-MOST-via-then-digits-gt-MOST, then-digits-gt-MOST-via-else-digits-gt-MOST+then-places-gt4}

pub returns-then-digits-gt-MOST : goal.returns-then-digits-gt-MOST
returns-then-digits-gt-MOST c = λ small.
    elim c.then-digits-gt-MOST.branch [
      | then-digits-gt-MOST-via-then-digits-gt-MOST w ↦ omega (arith, product_grows c.args.digits c.args.places)
      | then-digits-gt-MOST-via-else-digits-gt-MOST+then-places-gt4 w ↦ omega (arith, product_large c.args.digits c.args.places (omega arith) (omega arith))
    ]
