-- Whole microseconds at the borders and at the middle of a sample, rounded down.
-- Sample s of a recording at `rate` samples a second lies from (s - 1/2) / rate to (s + 1/2) / rate
-- seconds (EMU-SDMS Manual, "The emuDB format": a segment's sampleStart and sampleDur, an event's
-- samplePoint). No time lies before 0.
use Rattle.std.specs.Prelude.{ℕ, ◌+◌, ◌-◌, ◌*◌, ◌/◌, ◌==◌, if◌then◌else◌}

-- the left border of the first sample of a segment, 0 at sample 0
abbrev pub micros_of_start : ℕ → ℕ → ℕ
micros_of_start start rate =
    if start == 0 then 0 else (2 * start - 1) * 1000000 / (2 * rate)

-- the right border of the last sample of a segment
abbrev pub micros_of_end : ℕ → ℕ → ℕ
micros_of_end last rate = (2 * last + 1) * 1000000 / (2 * rate)

-- the middle of the sample of a point
abbrev pub micros_of_point : ℕ → ℕ → ℕ
micros_of_point at rate = at * 1000000 / rate
