-- The times of samples as they stand in a TextGrid, in seconds. (Praat manual, "TextGrid file formats":
-- `xmin`, `xmax` and `number`.)
use Rattle.std.specs.Prelude.{ℕ, ◌*◌, ◌/◌, ◌%◌, List, ◌∷◌, ◌++◌}
use Rattle.std.specs.Fmt.{decimal}

-- the time of a sample in hundred-millionths of a second, rounded down
abbrev pub ticks_of : ℕ → ℕ → ℕ
ticks_of sample rate = sample * 100000000 / rate

-- the last digit of a number
abbrev pub last_digit : ℕ → List ℕ
last_digit n = decimal (n % 10)

-- the last eight digits of a number, zeros where it has fewer
abbrev pub eight_digits : ℕ → List ℕ
eight_digits n =
    last_digit (n / 10000000) ++ (last_digit (n / 1000000)
    ++ (last_digit (n / 100000) ++ (last_digit (n / 10000)
    ++ (last_digit (n / 1000) ++ (last_digit (n / 100)
    ++ (last_digit (n / 10) ++ last_digit n))))))

-- the time of a sample in seconds: whole seconds, the point (the byte 46), and eight decimals
unfoldable pub time_text : ℕ → ℕ → List ℕ
time_text sample rate =
    decimal (ticks_of sample rate / 100000000) ++ (46 ∷ eight_digits (ticks_of sample rate))
