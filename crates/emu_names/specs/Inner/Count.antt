-- Words of contracts and loops beside `specs/Count.antt`; no promise of the program rests on them.
use Rattle.std.specs.Prelude.{ℕ, ◌+◌, ◌-◌, ◌^◌, min}

-- a count of 64 bits after one more: at its end it stands still
abbrev pub next_count : ℕ → ℕ
next_count n = min (n + 1) (2 ^ 64 - 1)
