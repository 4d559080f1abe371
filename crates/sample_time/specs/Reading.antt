-- The decimal that is read of a text, part after part. What it means stands in `Spelling`: the
-- contract of `read_decimal` says that the two agree.
use Rattle.std.specs.Prelude.{ℕ, ◌+◌, ◌*◌, ◌^◌, ◌==◌, nat_lt, nat_le, ◌&&◌, ◌||◌, Bool, false, List, [], ◌∷◌, length, take, drop, if◌then◌else◌, pos, ◌+ℤ◌, Option, Some, None, option_and_then, Result, Err}
use Rattle.std.specs.Option.{option_map, ok_or}
use Rattle.std.specs.List.{prefix_len}
use Rattle.std.specs.Char.{digit_value, is_ascii_digit}
use Rattle.sample_time.specs.declared.decimal.Decimal.{Decimal}
use Rattle.sample_time.specs.declared.decimal.NumberFault.{NumberFault}
use Rattle.sample_time.specs.declared.decimal.NumberFault.TheVariants.{NotANumber, TooManyDigits}
use Rattle.sample_time.specs.declared.significand.Significand.{Significand}
use Rattle.sample_time.specs.Spelling.{DecimalText, power_size, power_of}

-- whether a minus stands first, and what follows the sign
abbrev pub has_minus : List ℕ → Bool
has_minus [] = false
has_minus (b ∷ bs) = b == 45

-- the text behind its sign, if it has one
abbrev pub after_sign : List ℕ → List ℕ
after_sign [] = []
after_sign (b ∷ bs) = if b == 43 || b == 45 then bs else b ∷ bs

-- how many digits the text begins with
abbrev pub digit_count : List ℕ → ℕ
digit_count bs = prefix_len is_ascii_digit bs

-- the digits that the text begins with, of which there has to be one
unfoldable pub numeral_at : List ℕ → Option (List ℕ)
numeral_at bs = if digit_count bs == 0 then None else Some (take (digit_count bs) bs)

-- the digits behind a point at the front, of which there has to be one, and none without a point
unfoldable pub fraction_at : List ℕ → Option (List ℕ)
fraction_at [] = Some []
fraction_at (b ∷ bs) = if b == 46 then numeral_at bs else Some []

-- what stands behind the point and its digits, if there is a point
unfoldable pub after_fraction : List ℕ → List ℕ
after_fraction [] = []
after_fraction (b ∷ bs) = if b == 46 then drop (digit_count bs) bs else b ∷ bs

-- the sign and the digits of the power that the whole text is, and no digit of an empty text
unfoldable pub power_at : List ℕ → Option (Bool × List ℕ)
power_at [] = Some (false, [])
power_at (b ∷ bs) =
    if (b == 101 || b == 69) && nat_lt 0 (length (after_sign bs))
    && digit_count (after_sign bs) == length (after_sign bs)
    then Some (has_minus bs, after_sign bs) else None

-- the parts of a decimal
unfoldable pub with_power : List ℕ → List ℕ → List ℕ → Bool × List ℕ → DecimalText
with_power text whole fraction power =
    record {
      negative = has_minus text;
      whole = whole;
      fraction = fraction;
      shrinks = power.0;
      power = power.1;
    }

-- the parts of a text with these digits at its front, of what stands behind them
unfoldable pub parts_behind : List ℕ → List ℕ → List ℕ → Option DecimalText
parts_behind text whole rest =
    option_and_then
    (λ fraction. option_map (with_power text whole fraction) (power_at (after_fraction rest)))
    (fraction_at rest)

-- the parts of a text that is a decimal
unfoldable pub parts_at : List ℕ → Option DecimalText
parts_at text =
    option_and_then (λ whole. parts_behind text whole (drop (length whole) (after_sign text)))
    (numeral_at (after_sign text))

-- the digits so far without their trailing zeros, and how many these are, with one digit more
unfoldable pub push_digit : Significand → ℕ → Option Significand
push_digit s digit =
    if digit == 0
    then Some (if s.digits == 0 then s else record s { zeros = s.zeros + 1 })
    else (if nat_lt (s.digits * 10 ^ (s.zeros + 1) + digit) (10 ^ 20)
    then Some (record { digits = s.digits * 10 ^ (s.zeros + 1) + digit; zeros = 0 })
    else None)

-- and with all digits of a text, unless more than 20 remain
unfoldable pub push_all : List ℕ → Significand → Option Significand
push_all [] s = Some s
push_all (c ∷ cs) s = option_and_then (push_all cs) (push_digit s (digit_value c))

-- no digit yet
abbrev pub no_digits : Significand
no_digits = record { digits = 0; zeros = 0 }

-- the value of these digits with the parts' sign and power; zero has one form
unfoldable pub with_exponent : DecimalText → Significand → Decimal
with_exponent parts s =
    if s.digits == 0 then record { negative = false; digits = 0; exponent = pos 0 }
    else record {
      negative = parts.negative;
      digits = s.digits;
      exponent = power_of parts +ℤ pos s.zeros;
    }

-- the value of the parts of a text of so many bytes
unfoldable pub value_of : ℕ → DecimalText → Result Decimal NumberFault
value_of bytes parts =
    if nat_lt bytes (2 ^ 30) && nat_le (power_size parts) 9999
    then ok_or
    (option_map (with_exponent parts)
    (option_and_then (push_all parts.fraction) (push_all parts.whole no_digits)))
    TooManyDigits
    else Err TooManyDigits

-- the value of the parts, where a text has any
unfoldable pub value_at : ℕ → Option DecimalText → Result Decimal NumberFault
value_at bytes None = Err NotANumber
value_at bytes (Some parts) = value_of bytes parts

-- the decimal of a text
unfoldable pub decimal_of : List ℕ → Result Decimal NumberFault
decimal_of text = value_at (length text) (parts_at text)
