use Rattle.std.proofs.Common.{◌≡◌, ◌<◌, ◌%◌, ◌^◌, arith}
use Rattle.std.proofs.Math.Nat.{mod-eq_of_lt}
use Rattle.textgrid.proofs.Powers.{ten_positive, ten_to_38, ten_past_38}
use Rattle.textgrid.proofs.counts.divided.Goals as goal

pub returns-then-places-gt38 : goal.returns-then-places-gt38
returns-then-places-gt38 c = λ whole.
    let small : c.args.digits < 10 ^ c.args.places = omega (arith, ten_past_38 c.args.places (omega arith)) in
    let same : c.args.digits % 10 ^ c.args.places ≡ c.args.digits = mod-eq_of_lt small in
    omega (arith, same, whole.0)

pub pow-power-requires : goal.pow-power-requires
pow-power-requires c = omega (arith, ten_to_38 c.args.places (omega arith))

pub nonzero_rem-digits : goal.nonzero_rem-digits
nonzero_rem-digits c = omega (arith, ten_positive c.args.places, c.pow-power.ensures)
