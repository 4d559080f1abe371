use Rattle.std.proofs.Common.{◌-◌, ◌+◌, ◌*◌, drop, get_or, arith, sym, ◌∙◌}
use Rattle.sample_time.proofs.Digits.{after_more, after_ge}
use Rattle.sample_time.proofs.reading.power_size.Goals as goal

-- src/reading.rt:137:13
pub returns-then-size-gt-MOST_POWER : goal.returns-then-size-gt-MOST_POWER
returns-then-size-gt-MOST_POWER c =
    let more = after_more c.loop-digit.size c.loop-digit.digit-index c.args.digits.now c.requires (omega arith) in
    let large = after_ge (c.loop-digit.size * 10 + (get_or c.args.digits.now c.loop-digit.digit-index 0 - 48)) (drop (c.loop-digit.digit-index + 1) c.args.digits.now) in
    omega arith

-- src/reading.rt:134:5
pub loop-digit-preserved : goal.loop-digit-preserved
loop-digit-preserved c = record {
  small = omega arith;
  rest = sym (after_more c.loop-digit.size c.loop-digit.digit-index c.args.digits.now c.requires (omega arith)) ∙ c.loop-digit.invariant.rest;
}
