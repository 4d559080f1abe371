use Rattle.std.proofs.Common.{◌≡◌, ◌≤◌, drop}
use Rattle.std.specs.Str.Parse.{digits_value, digits_value_after}
use Rattle.sample_time.proofs.reading.power_size.Given as goal

abbrev pub invariant-loop-digit : goal.invariant-loop-digit
invariant-loop-digit l = record {
  small : l.size ≤ 9999;
  rest : digits_value_after 10 l.size (drop l.digit-index l.digits) ≡ digits_value 10 l.digits;
}
