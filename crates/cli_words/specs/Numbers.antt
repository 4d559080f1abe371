-- Which texts are numbers on a command line, and which number each of them is.
use Rattle.std.specs.Prelude.{ℕ, ◌^◌, Bool, ◌&&◌, ◌||◌, ◌==◌, not, cond, List, length, nat_le, nat_lt, slice_index, Option, Some, None}
use Rattle.std.specs.Str.{all_ascii_digits}
use Rattle.std.specs.Str.Parse.{digits_value}

-- decimal digits, of which the first is no zero (the byte 48) unless it stands alone
abbrev pub is_number : List ℕ → Bool
is_number text = all_ascii_digits text && (length text == 1 || (nat_lt 1 (length text) && not (slice_index text 0 == 48)))

-- the number of a text, where it is a number and below 2^64
abbrev pub number_of : List ℕ → Option ℕ
number_of text = cond (is_number text && nat_lt (digits_value 10 text) (2 ^ 64)) (Some (digits_value 10 text)) None

-- a number that lies between two others or is one of them
abbrev pub between : ℕ → ℕ → Option ℕ → Option ℕ
between low high None = None
between low high (Some n) = cond (nat_le low n && nat_le n high) (Some n) None

-- the number of a text, from `low` to `high`
abbrev pub number_in : ℕ → ℕ → List ℕ → Option ℕ
number_in low high text = between low high (number_of text)
