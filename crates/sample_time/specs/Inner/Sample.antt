-- Words of contracts and loops beside `specs/Sample.antt`; no promise of the program rests on them.
use Rattle.std.specs.Prelude.{ℕ, ◌+◌, ◌*◌, ◌<◌, ◌≤◌}
use Rattle.sample_time.specs.declared.decimal.Decimal.{Decimal}
use Rattle.sample_time.specs.Sample.{samples_above, samples_below}

-- s is the first sample at or behind the time: s - 1 < time * rate and time * rate <= s, each side
-- multiplied by the power of ten that makes both whole
pub record IsFirstSample (time : Decimal) (rate s : ℕ) : Type 0 where
  pub behind : samples_above time rate ≤ s * samples_below time
  pub first : s * samples_below time < samples_above time rate + samples_below time

-- s is the sample nearest to the time, and of two the later: 2 * s - 1 <= 2 * time * rate and
-- 2 * time * rate < 2 * s + 1, multiplied in the same way
pub record IsNearestSample (time : Decimal) (rate s : ℕ) : Type 0 where
  pub not_late : 2 * s * samples_below time ≤ 2 * samples_above time rate + samples_below time
  pub not_early : 2 * samples_above time rate < (2 * s + 1) * samples_below time
