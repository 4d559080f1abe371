use Rattle.std.proofs.Common.{◌≡◌, ◌+◌, ◌^◌, ◌<◌, ◌≤◌, drop}
use Rattle.sample_time.specs.Reading.{push_all}
use Rattle.sample_time.proofs.significand.with_digits.Given as goal

abbrev pub invariant-loop-digit : goal.invariant-loop-digit
invariant-loop-digit l = record {
  below : l.so_far.digits < 10 ^ 20;
  zeros : l.so_far.zeros ≤ l.fn.number.zeros + l.digit-index;
  rest : push_all (drop l.digit-index l.digits) l.so_far ≡ push_all l.digits l.fn.number;
}
