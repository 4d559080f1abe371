-- The samples of the definitions lie where their inequalities say.
use Rattle.std.proofs.Common.{◌≡◌, ℕ, ◌+◌, ◌*◌, ◌/◌, ◌<◌, ◌≤◌, Bool, true, false, cond, ℤ, pos, negsuc, Result, Ok, Err, IfOk, arith, subst, sym}
use Rattle.std.specs.Int.{div_ceil}
use Rattle.std.proofs.lemmas.Grind.{div_ceil_times}
use Rattle.std.proofs.Math.Nat.{div-mul-le_self, lt-div-mul-add}
use Rattle.sample_time.specs.declared.decimal.Decimal.{Decimal}
use Rattle.sample_time.specs.declared.sample.TimeFault.{TimeFault}
use Rattle.sample_time.specs.Sample.{is_negative, ten_below, samples_above, samples_below, first_sample, nearest_sample}
use Rattle.sample_time.specs.Inner.Sample.{IsFirstSample, IsNearestSample}
use Rattle.sample_time.proofs.Powers.{ten_positive}

-- what holds of the sample holds of the answer that has it
if_given : (P : ℕ → Type 0) (refused small : Bool) (s : ℕ) (early late : TimeFault) → P s → IfOk (cond refused (Err early) (cond small (Ok s) (Err late))) P
if_given P true small s early late holds = tt
if_given P false true s early late holds = holds
if_given P false false s early late holds = tt

pub below_positive : (e : ℤ) → 0 < ten_below e
below_positive (pos n) = omega arith
below_positive (negsuc n) = ten_positive _

first_between : (time : Decimal) (rate : ℕ) → IsFirstSample time rate (div_ceil (samples_above time rate) (samples_below time))
first_between time rate =
    let times = div_ceil_times (samples_above time rate) (samples_below time) (below_positive time.exponent) in
    record { behind = times.0; first = times.1 }

nearest_between : (time : Decimal) (rate : ℕ) → IsNearestSample time rate ((2 * samples_above time rate + samples_below time) / (2 * samples_below time))
nearest_between time rate =
    let top : ℕ = 2 * samples_above time rate + samples_below time in
    let low : ℕ = samples_below time in
    let some : 0 < low = below_positive time.exponent in
    let under : top / (2 * low) * (2 * low) ≤ top = div-mul-le_self top (2 * low) in
    let over : top < top / (2 * low) * (2 * low) + 2 * low = lt-div-mul-add (omega arith) in
    record { not_late = omega arith; not_early = omega arith }

pub first_sample_between : (time : Decimal) (rate : ℕ) (r : Result ℕ TimeFault) → r ≡ first_sample time rate → IfOk r (IsFirstSample time rate)
first_sample_between time rate r is =
    subst (λ (x : Result ℕ TimeFault). IfOk x (IsFirstSample time rate)) (sym is)
    (if_given (IsFirstSample time rate) (is_negative time) _ _ _ _ (first_between time rate))

pub nearest_sample_between : (time : Decimal) (rate : ℕ) (r : Result ℕ TimeFault) → r ≡ nearest_sample time rate → IfOk r (IsNearestSample time rate)
nearest_sample_between time rate r is =
    subst (λ (x : Result ℕ TimeFault). IfOk x (IsNearestSample time rate)) (sym is)
    (if_given (IsNearestSample time rate) (is_negative time) _ _ _ _ (nearest_between time rate))
