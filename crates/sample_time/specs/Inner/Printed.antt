-- What is read of the text of a time, and of that of a whole number.
use Rattle.std.specs.Prelude.{◌≡◌, ℕ, ◌*◌, ◌^◌, ◌<◌, ◌≤◌, ◌==◌, ◌||◌, Bool, false, IsTrue, List, Ok, pos}
use Rattle.std.specs.List.{list_all}
use Rattle.std.specs.Char.{is_ascii_digit}
use Rattle.std.specs.Fmt.{decimal}
use Rattle.emu_names.specs.declared.limits.TheConstants.{SAMPLES, TOP_RATE}
use Rattle.sample_time.specs.declared.decimal.Decimal.{Decimal}
use Rattle.sample_time.specs.Reading.{decimal_of}
use Rattle.sample_time.specs.Sample.{first_sample, nearest_sample}
use Rattle.sample_time.specs.Printed.{time_text}

-- a digit, or the point
abbrev pub is_time_byte : ℕ → Bool
is_time_byte b = is_ascii_digit b || b == 46

-- the text is digits and points, and is read as a decimal that has this sample at the rate
pub record ReadsBack (sample rate : ℕ) (text : List ℕ) : Type 0 where
  pub plain : IsTrue (list_all is_time_byte text)
  pub time : Decimal
  pub read : decimal_of text ≡ Ok time
  pub first : first_sample time rate ≡ Ok sample
  pub nearest : sample < SAMPLES → nearest_sample time rate ≡ Ok sample

-- the text of the time of a sample is read as a time of that sample
abbrev pub TimesReadBack : Type 0
TimesReadBack =
    (sample rate : ℕ) → sample ≤ SAMPLES → 1 ≤ rate → rate ≤ TOP_RATE
    → ReadsBack sample rate (time_text sample rate)

-- the text is digits, and is read as a whole number of this value
pub record CountsBack (n : ℕ) (text : List ℕ) : Type 0 where
  pub plain : IsTrue (list_all is_time_byte text)
  pub number : Decimal
  pub read : decimal_of text ≡ Ok number
  pub positive : number.negative ≡ false
  pub places : ℕ
  pub at : number.exponent ≡ pos places
  pub is : number.digits * 10 ^ places ≡ n

-- the text of a whole number is read as that number
abbrev pub CountsReadBack : Type 0
CountsReadBack = (n : ℕ) → n < 10 ^ 18 → CountsBack n (decimal n)
