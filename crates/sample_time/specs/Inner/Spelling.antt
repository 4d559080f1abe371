-- Words of contracts and loops beside `specs/Spelling.antt`; no promise of the program rests on them.
use Rattle.std.specs.Prelude.{◌≡◌, ◌≢◌, ◌↔◌, ℕ, ◌*◌, ◌%◌, ◌^◌, ◌<◌, ◌≤◌, ◌⊎◌, Bool, true, false, IsTrue, List, [], ◌∷◌, ◌++◌, ℤ, pos, ◌+ℤ◌, Result, Ok, Err}
use Rattle.std.specs.Str.Parse.{IsNumeral, digits_value}
use Rattle.sample_time.specs.declared.decimal.Decimal.{Decimal}
use Rattle.sample_time.specs.declared.decimal.NumberFault.{NumberFault}
use Rattle.sample_time.specs.declared.decimal.NumberFault.TheVariants.{NotANumber, TooManyDigits}
use Rattle.sample_time.specs.Spelling.{DecimalText, power_size, power_of}

-- nothing, a plus or a minus
abbrev pub IsSign : List ℕ → Bool → Type 0
IsSign text negative =
    ((text ≡ []) × (negative ≡ false))
    ⊎ ((text ≡ 43 ∷ []) × (negative ≡ false))
    ⊎ ((text ≡ 45 ∷ []) × (negative ≡ true))

-- nothing, or a point and digits
abbrev pub IsFraction : List ℕ → List ℕ → Type 0
IsFraction text digits =
    ((text ≡ []) × (digits ≡ []))
    ⊎ ((text ≡ 46 ∷ digits) × IsNumeral 10 digits)

-- nothing, or `e` or `E`, a sign and digits
pub record IsMarkedPower (text : List ℕ) (negative : Bool) (digits : List ℕ) : Type 0 where
  pub marker : ℕ
  pub sign_text : List ℕ
  pub written : text ≡ marker ∷ (sign_text ++ digits)
  pub is_marker : (marker ≡ 101) ⊎ (marker ≡ 69)
  pub sign : IsSign sign_text negative
  pub numeral : IsNumeral 10 digits

-- a power of ten that may be missing
abbrev pub IsPower : List ℕ → Bool → List ℕ → Type 0
IsPower text negative digits =
    ((text ≡ []) × (negative ≡ false) × (digits ≡ []))
    ⊎ IsMarkedPower text negative digits

-- the text is a decimal with these parts
pub record Spells (text : List ℕ) (parts : DecimalText) : Type 0 where
  pub sign_text : List ℕ
  pub fraction_text : List ℕ
  pub power_text : List ℕ
  pub written : text ≡ sign_text ++ (parts.whole ++ (fraction_text ++ power_text))
  pub sign : IsSign sign_text parts.negative
  pub whole : IsNumeral 10 parts.whole
  pub fraction : IsFraction fraction_text parts.fraction
  pub power : IsPower power_text parts.shrinks parts.power

-- the digits before and behind the point, read as one whole number
abbrev pub number_of : DecimalText → ℕ
number_of parts = digits_value 10 (parts.whole ++ parts.fraction)

-- n is `digits` followed by `zeros` zeros, and `digits` ends in no zero; the number 0 has none
pub record IsTrimmed (n digits zeros : ℕ) : Type 0 where
  pub product : n ≡ digits * 10 ^ zeros
  pub trimmed : (digits % 10 ≢ 0) ⊎ ((digits ≡ 0) × (zeros ≡ 0))

-- More than 20 digits remain when leading and trailing zeros are dropped: what remains is 10^20 or
-- more.
pub record HasTooManyDigits (parts : DecimalText) : Type 0 where
  pub digits : ℕ
  pub zeros : ℕ
  pub trimmed : IsTrimmed (number_of parts) digits zeros
  pub many : 10 ^ 20 ≤ digits

-- The value of the parts in the one form that it has here: trailing zeros are part of the exponent,
-- and zero is plainly 0 * 10^0, not negative.
pub record IsValue (parts : DecimalText) (value : Decimal) : Type 0 where
  pub zeros : ℕ
  pub trimmed : IsTrimmed (number_of parts) value.digits zeros
  pub exponent : 0 < value.digits → value.exponent ≡ power_of parts +ℤ pos zeros
  pub no_exponent : value.digits ≡ 0 → value.exponent ≡ pos 0
  pub negative : IsTrue value.negative ↔ (IsTrue parts.negative × (0 < value.digits))

-- what is read of a text of so many bytes that is a decimal with these parts
abbrev pub IsReading : ℕ → DecimalText → Result Decimal NumberFault → Type 0
IsReading bytes parts (Ok value) =
    (bytes < 2 ^ 30) × (power_size parts ≤ 9999) × (value.digits < 10 ^ 20) × IsValue parts value
IsReading bytes parts (Err TooManyDigits) =
    (2 ^ 30 ≤ bytes) ⊎ (9999 < power_size parts) ⊎ HasTooManyDigits parts
IsReading bytes parts (Err NotANumber) = ⊥
