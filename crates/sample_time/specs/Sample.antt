-- The samples at the times of a TextGrid, which are decimals of seconds (Praat manual, "TextGrid
-- file formats"). A recording has `rate` samples a second, and sample s stands at s / rate seconds.
use Rattle.std.specs.Prelude.{ℕ, suc, ◌+◌, ◌*◌, ◌/◌, ◌^◌, Bool, ◌&&◌, nat_lt, nat_le, if◌then◌else◌, ℤ, pos, negsuc, Result, Ok, Err}
use Rattle.std.specs.Int.{div_ceil}
use Rattle.emu_names.specs.declared.limits.TheConstants.{SAMPLES}
use Rattle.sample_time.specs.declared.decimal.Decimal.{Decimal}
use Rattle.sample_time.specs.declared.sample.TimeFault.{TimeFault}
use Rattle.sample_time.specs.declared.sample.TimeFault.TheVariants.{NegativeTime, TimeTooLarge}

-- ten to the power e, as a fraction: what stands above its bar
abbrev pub ten_above : ℤ → ℕ
ten_above (pos n) = 10 ^ n
ten_above (negsuc n) = 1

-- and what stands below it
abbrev pub ten_below : ℤ → ℕ
ten_below (pos n) = 1
ten_below (negsuc n) = 10 ^ suc n

-- The time counted in samples, time * rate, is the fraction of these two.
abbrev pub samples_above : Decimal → ℕ → ℕ
samples_above time rate = time.digits * rate * ten_above time.exponent

-- the lower one of the two
abbrev pub samples_below : Decimal → ℕ
samples_below time = ten_below time.exponent

-- the time is below 0; zero is not, whatever its sign
abbrev pub is_negative : Decimal → Bool
is_negative time = time.negative && nat_lt 0 time.digits

-- time * rate, rounded up, where that is at most 2^40
abbrev pub first_sample : Decimal → ℕ → Result ℕ TimeFault
first_sample time rate =
    let s = div_ceil (samples_above time rate) (samples_below time) in
    if is_negative time then Err NegativeTime
    else (if nat_le s SAMPLES then Ok s else Err TimeTooLarge)

-- time * rate + 1/2, rounded down, where that is below 2^40
abbrev pub nearest_sample : Decimal → ℕ → Result ℕ TimeFault
nearest_sample time rate =
    let s = (2 * samples_above time rate + samples_below time) / (2 * samples_below time) in
    if is_negative time then Err NegativeTime
    else (if nat_lt s SAMPLES then Ok s else Err TimeTooLarge)
