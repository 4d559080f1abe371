-- Decimals as texts spell them, and what they stand for: an optional sign, digits, optionally a
-- point and digits, and optionally `e` or `E` with an optional sign and digits. (Praat manual,
-- "TextGrid file formats": the numbers of a TextGrid.)
use Rattle.std.specs.Prelude.{ℕ, Bool, List, length, if◌then◌else◌, ℤ, pos, ◌-ℤ◌, neg_ℤ}
use Rattle.std.specs.Str.Parse.{digits_value}

-- What the text of a decimal says: whether a minus stands before it, the digits before and behind
-- its point, whether a minus stands before its exponent, and the digits of that. A part that is
-- missing has no digit and no minus.
pub record DecimalText : Type 0 where
  pub negative : Bool
  pub whole : List ℕ
  pub fraction : List ℕ
  pub shrinks : Bool
  pub power : List ℕ

-- the size of the written exponent, to which leading zeros add nothing
abbrev pub power_size : DecimalText → ℕ
power_size parts = digits_value 10 parts.power

-- the power of ten that the whole number is multiplied by
abbrev pub power_of : DecimalText → ℤ
power_of parts =
    (if parts.shrinks then neg_ℤ (pos (power_size parts)) else pos (power_size parts))
    -ℤ pos (length parts.fraction)
