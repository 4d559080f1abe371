use Rattle.std.proofs.Common.{arith, rules, sym, ◌∙◌}
use Rattle.sample_time.proofs.Digits.{push_all_goes_on, push_all_stops}
use Rattle.sample_time.proofs.significand.with_digits.Goals as goal

-- src/significand.rt:67:18
pub returns-in_err-so_far-clause-value : goal.returns-in_err-so_far-clause-value
returns-in_err-so_far-clause-value c =
    let stops = push_all_stops c.loop-digit.so_far c.loop-digit.digit-index c.args.digits.now c.requires.digits (omega arith) c.in_err-so_far.ensures.value in
    c.from_residual.ensures ∙ sym stops ∙ c.loop-digit.invariant.rest

-- src/significand.rt:66:5
pub loop-digit-preserved : goal.loop-digit-preserved
loop-digit-preserved c = record {
  below = search rules;
  zeros = omega (arith, c.in_ok-so_far.ensures.zeros);
  rest = sym (push_all_goes_on c.loop-digit.so_far c.in_ok-so_far.so_far c.loop-digit.digit-index c.args.digits.now c.requires.digits (omega arith) c.in_ok-so_far.ensures.value) ∙ c.loop-digit.invariant.rest;
}
