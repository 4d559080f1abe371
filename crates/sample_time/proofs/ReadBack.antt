-- The text of a time is read as a time of its sample.
use Rattle.std.proofs.Common.{◌≡◌, ◌≢◌, ℕ, zero, suc, ◌+◌, ◌-◌, ◌*◌, ◌/◌, ◌%◌, ◌^◌, ◌<◌, ◌≤◌, ◌⊎◌, inl, inr, Bool, true, false, cond, IsTrue, leb, ltb, List, [], ◌∷◌, ◌++◌, length, Result, Ok, Err, ℤ, pos, negsuc, ◌+ℤ◌, arith, length-append, append-nil, refl, sym, ap, ◌∙◌, subst}
use Rattle.std.specs.Fmt.{decimal}
use Rattle.std.specs.Int.{div_ceil}
use Rattle.std.specs.Char.{digit_value}
use Rattle.std.specs.Str.Parse.{AllDigits, IsNumeral, digits_value, digits_value_after}
use Rattle.std.specs.List.{list_all}
use Rattle.std.proofs.lemmas.List.Folds.{list_all-append}
use Rattle.std.proofs.lemmas.Fmt.{decimal_digit, decimal_is_IsNumeral_wide, length-decimal-le_wide}
use Rattle.std.proofs.lemmas.Bool.Decides.{nat_tests}
use Rattle.std.proofs.lemmas.Grind.{div_ceil_times}
use Rattle.std.proofs.lemmas.Nat.{pow-add, mul-le}
use Rattle.std.proofs.Math.Nat.{div-mul-le_self, lt-div-mul-add, lt_of_mul-lt-mul_right, mul-mod_left, pow-suc, mul-le-mul_right, le_of_mul-le-mul_left, mul-lt-mul_of_pos_right}
use Rattle.sample_time.specs.declared.decimal.Decimal.{Decimal}
use Rattle.sample_time.specs.declared.decimal.NumberFault.{NumberFault}
use Rattle.sample_time.specs.declared.decimal.NumberFault.TheVariants.{NotANumber, TooManyDigits}
use Rattle.sample_time.specs.declared.sample.TimeFault.{TimeFault}
use Rattle.sample_time.specs.Spelling.{DecimalText}
use Rattle.sample_time.specs.Inner.Spelling.{Spells, IsReading, IsValue, IsTrimmed, HasTooManyDigits, number_of}
use Rattle.sample_time.specs.Reading.{decimal_of}
use Rattle.sample_time.specs.Sample.{ten_above, ten_below, samples_above, samples_below, is_negative, first_sample, nearest_sample}
use Rattle.sample_time.specs.Printed.{ticks_of, last_digit, eight_digits, time_text}
use Rattle.sample_time.specs.Inner.Printed.{is_time_byte, ReadsBack, CountsBack}
use Rattle.sample_time.proofs.Powers.{ten_positive}
use Rattle.sample_time.proofs.Laws.{below_positive}
use Rattle.sample_time.proofs.Readings.{reading_is, after-append}

-- one quotient
same_factor : (b q s : ℕ) → 0 < b → s * b < (q + 1) * b → q * b < (s + 1) * b → s ≡ q
same_factor b q s some low high =
    let a : s < q + 1 = lt_of_mul-lt-mul_right b low in
    let c : q < s + 1 = lt_of_mul-lt-mul_right b high in
    omega arith

ceil_is : (x b s : ℕ) → 0 < b → x ≤ s * b → s * b < x + b → div_ceil x b ≡ s
ceil_is x b s some low high =
    let times = div_ceil_times x b some in
    sym (same_factor b (div_ceil x b) s some (omega (arith, times.0)) (omega (arith, times.1)))

quotient_is : (x b s : ℕ) → 0 < b → s * b ≤ x → x < s * b + b → x / b ≡ s
quotient_is x b s some low high =
    let under : x / b * b ≤ x = div-mul-le_self x b in
    let over : x < x / b * b + b = lt-div-mul-add some in
    sym (same_factor b (x / b) s some (omega arith) (omega arith))

-- the two sides of a time's fraction, against those of n hundred-millionths
pub record Stands (n rate : ℕ) (time : Decimal) : Type 0 where
  pub positive : is_negative time ≡ false
  pub cross : samples_above time rate * 100000000 ≡ n * rate * samples_below time

lifted : (a b : ℕ) → a * 100000000 ≤ b * 100000000 → a ≤ b
lifted a b is = omega arith

-- n, the rate and what is left of the sample's hundred-millionths
pub record Ticks (sample rate n : ℕ) : Type 0 where
  pub left : ℕ
  pub below : left < rate
  pub few : left < 1000000
  pub is : sample * 100000000 ≡ n * rate + left

ticks : (sample rate : ℕ) → 1 ≤ rate → rate ≤ 1000000 → Ticks sample rate (ticks_of sample rate)
ticks sample rate some small =
    let under : sample * 100000000 / rate * rate ≤ sample * 100000000 = div-mul-le_self (sample * 100000000) rate in
    let over : sample * 100000000 < sample * 100000000 / rate * rate + rate = lt-div-mul-add some in
    record { left = sample * 100000000 - sample * 100000000 / rate * rate; below = omega arith; few = omega arith; is = omega arith }

scaled : (sample rate n low : ℕ) (t : Ticks sample rate n) → sample * low * 100000000 ≡ n * rate * low + t.left * low
scaled sample rate n low t =
    let is : sample * 100000000 * low ≡ (n * rate + t.left) * low = ap (λ (x : ℕ). x * low) t.is in omega arith

first_is : (sample rate n : ℕ) (time : Decimal) → Ticks sample rate n → Stands n rate time → div_ceil (samples_above time rate) (samples_below time) ≡ sample
first_is sample rate n time t stands =
    let low : ℕ = samples_below time in
    let top : ℕ = samples_above time rate in
    let some : 0 < low = below_positive time.exponent in
    let cross : top * 100000000 ≡ n * rate * low = stands.cross in
    let is : sample * low * 100000000 ≡ n * rate * low + t.left * low = scaled sample rate n low t in
    let few : t.left * low < 1000000 * low = mul-lt-mul_of_pos_right t.few some in
    ceil_is top low sample some (omega arith) (omega arith)

nearest_is : (sample rate n : ℕ) (time : Decimal) → Ticks sample rate n → Stands n rate time → (2 * samples_above time rate + samples_below time) / (2 * samples_below time) ≡ sample
nearest_is sample rate n time t stands =
    let low : ℕ = samples_below time in
    let top : ℕ = samples_above time rate in
    let some : 0 < low = below_positive time.exponent in
    let cross : top * 100000000 ≡ n * rate * low = stands.cross in
    let is : sample * low * 100000000 ≡ n * rate * low + t.left * low = scaled sample rate n low t in
    let few : t.left * low < 1000000 * low = mul-lt-mul_of_pos_right t.few some in
    quotient_is (2 * top + low) (2 * low) sample (omega arith) (omega arith) (omega arith)

given_first : (refused small : Bool) (s q : ℕ) (early late : TimeFault) → refused ≡ false → q ≡ s → small ≡ true → cond refused (Err early) (cond small (Ok q) (Err late)) ≡ Ok s
given_first refused small s q early late never_is is low_is = rw (never_is, low_is, is) refl

first_read : (sample rate n : ℕ) (time : Decimal) → sample ≤ 2 ^ 40 → Ticks sample rate n → Stands n rate time → first_sample time rate ≡ Ok sample
first_read sample rate n time within t stands =
    let is = first_is sample rate n time t stands in
    given_first (is_negative time) (leb (div_ceil (samples_above time rate) (samples_below time)) (2 ^ 40)) sample _ _ _ stands.positive is (rw is (grind (arith, nat_tests)))

nearest_read : (sample rate n : ℕ) (time : Decimal) → sample < 2 ^ 40 → Ticks sample rate n → Stands n rate time → nearest_sample time rate ≡ Ok sample
nearest_read sample rate n time within t stands =
    let is = nearest_is sample rate n time t stands in
    given_first (is_negative time) (ltb ((2 * samples_above time rate + samples_below time) / (2 * samples_below time)) (2 ^ 40)) sample _ _ _ stands.positive is (rw is (grind (arith, nat_tests)))

-- eight digits behind the point
powers : (z : ℕ) → ten_above (negsuc 7 +ℤ pos z) * 100000000 ≡ 10 ^ z * ten_below (negsuc 7 +ℤ pos z)
powers zero = refl
powers (suc zero) = refl
powers (suc (suc zero)) = refl
powers (suc (suc (suc zero))) = refl
powers (suc (suc (suc (suc zero)))) = refl
powers (suc (suc (suc (suc (suc zero))))) = refl
powers (suc (suc (suc (suc (suc (suc zero)))))) = refl
powers (suc (suc (suc (suc (suc (suc (suc zero))))))) = refl
powers (suc (suc (suc (suc (suc (suc (suc (suc y)))))))) =
    let no : ltb (suc (suc (suc (suc (suc (suc (suc (suc y)))))))) 8 ≡ false = grind (arith, nat_tests) in
    let less : suc (suc (suc (suc (suc (suc (suc (suc y))))))) - 8 ≡ y = omega arith in
    let sum : suc (suc (suc (suc (suc (suc (suc (suc y))))))) ≡ y + 8 = omega arith in
    let power : 10 ^ (y + 8) ≡ 10 ^ y * 10 ^ 8 = pow-add 10 y 8 in
    rw (no, less, sum, power) (omega arith)

cross_some : (digits rate n z : ℕ) (e : ℤ) → n ≡ digits * 10 ^ z → e ≡ negsuc 7 +ℤ pos z → digits * rate * ten_above e * 100000000 ≡ n * rate * ten_below e
cross_some digits rate n z e is at =
    let top : ℕ = ten_above (negsuc 7 +ℤ pos z) in
    let low : ℕ = ten_below (negsuc 7 +ℤ pos z) in
    let power : digits * rate * (top * 100000000) ≡ digits * rate * (10 ^ z * low) = ap (λ (x : ℕ). digits * rate * x) (powers z) in
    let same : n * (rate * low) ≡ digits * 10 ^ z * (rate * low) = ap (λ (x : ℕ). x * (rate * low)) is in
    rw at (omega (arith, power, same))

cross_by : (digits rate n z : ℕ) (e : ℤ) → n ≡ digits * 10 ^ z → (0 < digits → e ≡ negsuc 7 +ℤ pos z) → (digits ≡ 0 → e ≡ pos 0) → digits * rate * ten_above e * 100000000 ≡ n * rate * ten_below e
cross_by zero rate n z e is some none =
    let at : e ≡ pos 0 = none refl in
    let no : n ≡ 0 = omega arith in
    rw (at, no) (omega arith)
cross_by (suc d) rate n z e is some none = cross_some (suc d) rate n z e is (some (omega arith))

never : (b : Bool) → (IsTrue b → ⊥) → b ≡ false
never true wrong = absurd (wrong refl)
never false wrong = refl

-- the digits of the text
one_digit : (m : ℕ) → last_digit m ≡ (48 + m % 10) ∷ []
one_digit m = let small : m % 10 < 10 = omega arith in decimal_digit (m % 10) small

abbrev written_digits : ℕ → List ℕ
written_digits n =
    (48 + n / 10000000 % 10) ∷ (48 + n / 1000000 % 10) ∷ (48 + n / 100000 % 10) ∷ (48 + n / 10000 % 10)
    ∷ (48 + n / 1000 % 10) ∷ (48 + n / 100 % 10) ∷ (48 + n / 10 % 10) ∷ (48 + n % 10) ∷ []

eight_is : (n : ℕ) → eight_digits n ≡ written_digits n
eight_is n =
    rw (one_digit (n / 10000000), one_digit (n / 1000000), one_digit (n / 100000), one_digit (n / 10000), one_digit (n / 1000), one_digit (n / 100), one_digit (n / 10), one_digit n) refl

digit_is : (m : ℕ) → digit_value (48 + m % 10) ≡ m % 10
digit_is m = let small : m % 10 < 10 = omega arith in grind (arith, nat_tests)

digit_small : (m : ℕ) → digit_value (48 + m % 10) < 10
digit_small m = rw (digit_is m) (omega arith)

eight_all : (n : ℕ) → AllDigits 10 (written_digits n)
eight_all n = (digit_small (n / 10000000), (digit_small (n / 1000000), (digit_small (n / 100000), (digit_small (n / 10000), (digit_small (n / 1000), (digit_small (n / 100), (digit_small (n / 10), (digit_small n, tt))))))))

step : (q m : ℕ) → q ≡ m / 10 → q * 10 + digit_value (48 + m % 10) ≡ m
step q m is = rw (digit_is m) (omega arith)

eight_value : (n : ℕ) → digits_value_after 10 (n / 100000000) (written_digits n) ≡ n
eight_value n =
    rw (step (n / 100000000) (n / 10000000) (omega arith), step (n / 10000000) (n / 1000000) (omega arith), step (n / 1000000) (n / 100000) (omega arith), step (n / 100000) (n / 10000) (omega arith), step (n / 10000) (n / 1000) (omega arith), step (n / 1000) (n / 100) (omega arith), step (n / 100) (n / 10) (omega arith), step (n / 10) n (omega arith)) refl

abbrev parts_of : ℕ → DecimalText
parts_of n = record { negative = false; whole = decimal (n / 100000000); fraction = written_digits n; shrinks = false; power = [] }

number_is : (n : ℕ) → n < 10 ^ 64 → number_of (parts_of n) ≡ n
number_is n small =
    let whole = decimal_is_IsNumeral_wide (n / 100000000) (omega arith) in
    after-append 0 (decimal (n / 100000000)) (written_digits n)
    ∙ ap (λ (q : ℕ). digits_value_after 10 q (written_digits n)) whole.1
    ∙ eight_value n

spelled : (sample rate : ℕ) → ticks_of sample rate < 10 ^ 64 → Spells (time_text sample rate) (parts_of (ticks_of sample rate))
unfolding time_text
spelled sample rate small =
    let n : ℕ = ticks_of sample rate in
    let whole = decimal_is_IsNumeral_wide (n / 100000000) (omega arith) in
    record {
      sign_text = [];
      fraction_text = 46 ∷ written_digits n;
      power_text = [];
      written = ap (λ (x : List ℕ). decimal (n / 100000000) ++ (46 ∷ x)) (eight_is n);
      sign = inl (refl, refl);
      whole = whole.0;
      fraction = inr (refl, (omega arith, eight_all n));
      power = inl (refl, refl, refl);
    }

few_digits : (sample rate n digits zeros : ℕ) → sample ≤ 2 ^ 40 → Ticks sample rate n → IsTrimmed n digits zeros → 10 ^ 20 ≤ digits → ⊥
few_digits sample zero n digits zeros within t trimmed many = omega (arith, t.below)
few_digits sample (suc zero) n digits zero within t trimmed many =
    let tens : sample * 10000000 * 10 % 10 ≡ 0 = mul-mod_left (sample * 10000000) 10 in
    let same : digits ≡ sample * 10000000 * 10 = omega (arith, t.below, t.is, trimmed.product) in
    elim trimmed.trimmed [ inl last ↦ last (rw same tens) | inr none ↦ omega (arith, none.0) ]
few_digits sample (suc (suc r)) n digits zero within t trimmed many =
    let more : n * 2 ≤ n * suc (suc r) = mul-le n 2 n (suc (suc r)) (omega arith) (omega arith) in
    omega (arith, t.is, trimmed.product)
few_digits sample (suc r) n digits (suc z) within t trimmed many =
    let one : n * 1 ≤ n * suc r = mul-le n 1 n (suc r) (omega arith) (omega arith) in
    let ten : 10 ^ suc z ≡ 10 ^ z * 10 = pow-suc 10 z in
    let some : 0 < 10 ^ z = ten_positive z in
    let more : digits * 10 ≤ digits * 10 ^ suc z = mul-le digits 10 digits (10 ^ suc z) (omega arith) (omega arith) in
    omega (arith, t.is, trimmed.product)

stands_by : (rate n : ℕ) (time : Decimal) → number_of (parts_of n) ≡ n → IsValue (parts_of n) time → Stands n rate time
stands_by rate n time number value =
    let product : n ≡ time.digits * 10 ^ value.zeros = sym number ∙ value.trimmed.product in
    let negative : time.negative ≡ false = never time.negative (λ h. let no = (value.negative.0 h).0 in cc) in
    record {
      positive = rw negative refl;
      cross = cross_by time.digits rate n value.zeros time.exponent product value.exponent value.no_exponent;
    }

-- the bytes of digits
digits_plain : (ds : List ℕ) → AllDigits 10 ds → list_all is_time_byte ds ≡ true
digits_plain [] all = refl
digits_plain (d ∷ ds) all =
    let rest = digits_plain ds all.1 in
    let digit = all.0 in
    let first : is_time_byte d ≡ true = grind (arith, nat_tests) in
    rw (first, rest) refl

plain : (sample rate : ℕ) → ticks_of sample rate < 10 ^ 64 → IsTrue (list_all is_time_byte (time_text sample rate))
unfolding time_text
plain sample rate small =
    let n : ℕ = ticks_of sample rate in
    let whole = decimal_is_IsNumeral_wide (n / 100000000) (omega arith) in
    let front : list_all is_time_byte (decimal (n / 100000000)) ≡ true = digits_plain (decimal (n / 100000000)) whole.0.1 in
    let back : list_all is_time_byte (written_digits n) ≡ true = digits_plain (written_digits n) (eight_all n) in
    let all : list_all is_time_byte (46 ∷ eight_digits n) ≡ true = ap (λ (x : List ℕ). list_all is_time_byte (46 ∷ x)) (eight_is n) ∙ back in
    list_all-append is_time_byte (decimal (n / 100000000)) (46 ∷ eight_digits n) ∙ rw (front, all) refl

short : (sample rate : ℕ) → ticks_of sample rate < 10 ^ 64 → length (time_text sample rate) < 2 ^ 30
unfolding time_text
short sample rate small =
    let n : ℕ = ticks_of sample rate in
    let whole : length (decimal (n / 100000000)) ≤ 64 = length-decimal-le_wide 64 (n / 100000000) (omega arith) (omega arith) (omega arith) in
    let all : length (decimal (n / 100000000) ++ (46 ∷ eight_digits n)) ≡ length (decimal (n / 100000000)) + length (46 ∷ eight_digits n) = length-append (decimal (n / 100000000)) (46 ∷ eight_digits n) in
    let eight : length (46 ∷ eight_digits n) ≡ 9 = ap (λ (x : List ℕ). length (46 ∷ x)) (eight_is n) in
    omega arith

read_by : (sample rate : ℕ) (r : Result Decimal NumberFault) → sample ≤ 2 ^ 40 → Ticks sample rate (ticks_of sample rate) → ticks_of sample rate < 10 ^ 64 → length (time_text sample rate) < 2 ^ 30 → decimal_of (time_text sample rate) ≡ r → IsReading (length (time_text sample rate)) (parts_of (ticks_of sample rate)) r → ReadsBack sample rate (time_text sample rate)
read_by sample rate (Ok time) within t small few is reading =
    let n : ℕ = ticks_of sample rate in
    let stands = stands_by rate n time (number_is n small) reading.3 in
    record { plain = plain sample rate small; time = time; read = is; first = first_read sample rate n time within t stands; nearest = λ below. nearest_read sample rate n time below t stands }
read_by sample rate (Err NotANumber) within t small few is reading = absurd reading
read_by sample rate (Err TooManyDigits) within t small few is (inl long) = absurd (omega arith)
read_by sample rate (Err TooManyDigits) within t small few is (inr (inl large)) = absurd (omega arith)
read_by sample rate (Err TooManyDigits) within t small few is (inr (inr many)) =
    let n : ℕ = ticks_of sample rate in
    let trimmed : IsTrimmed n many.digits many.zeros = subst (λ (x : ℕ). IsTrimmed x many.digits many.zeros) (number_is n small) many.trimmed in
    absurd (few_digits sample rate n many.digits many.zeros within t trimmed many.many)

ticks_small : (sample rate n : ℕ) → sample ≤ 2 ^ 40 → Ticks sample rate n → n < 10 ^ 64
ticks_small sample zero n within t = absurd (omega (arith, t.below))
ticks_small sample (suc r) n within t =
    let one : n * 1 ≤ n * suc r = mul-le n 1 n (suc r) (omega arith) (omega arith) in
    omega (arith, t.is)

pub times_read_back : (sample rate : ℕ) → sample ≤ 2 ^ 40 → 1 ≤ rate → rate ≤ 1000000 → ReadsBack sample rate (time_text sample rate)
times_read_back sample rate within some high =
    let t = ticks sample rate some high in
    let small = ticks_small sample rate (ticks_of sample rate) within t in
    read_by sample rate (decimal_of (time_text sample rate)) within t small (short sample rate small) refl
    (reading_is (time_text sample rate) (decimal_of (time_text sample rate)) refl (parts_of (ticks_of sample rate)) (spelled sample rate small))

-- whole numbers
abbrev count_parts : ℕ → DecimalText
count_parts n = record { negative = false; whole = decimal n; fraction = []; shrinks = false; power = [] }

count_spelled : (n : ℕ) → n < 10 ^ 64 → Spells (decimal n) (count_parts n)
count_spelled n small =
    let whole = decimal_is_IsNumeral_wide n small in
    record {
      sign_text = [];
      fraction_text = [];
      power_text = [];
      written = sym (append-nil (decimal n));
      sign = inl (refl, refl);
      whole = whole.0;
      fraction = inl (refl, refl);
      power = inl (refl, refl, refl);
    }

count_number : (n : ℕ) → n < 10 ^ 64 → number_of (count_parts n) ≡ n
count_number n small = ap (λ (x : List ℕ). digits_value 10 x) (append-nil (decimal n)) ∙ (decimal_is_IsNumeral_wide n small).1

count_by : (n digits z : ℕ) (e : ℤ) (d : Decimal) → d.digits ≡ digits → d.exponent ≡ e → decimal_of (decimal n) ≡ Ok d → IsTrue (list_all is_time_byte (decimal n)) → d.negative ≡ false → n ≡ digits * 10 ^ z → (0 < digits → e ≡ pos z) → (digits ≡ 0 → e ≡ pos 0) → CountsBack n (decimal n)
count_by n zero z e d same at read text positive is some none = record {
  plain = text;
  number = d;
  read = read;
  positive = positive;
  places = 0;
  at = at ∙ none refl;
  is = rw same (omega arith);
}
count_by n (suc digits) z e d same at read text positive is some none = record {
  plain = text;
  number = d;
  read = read;
  positive = positive;
  places = z;
  at = at ∙ some (omega arith);
  is = rw same (sym is);
}

count_read : (n : ℕ) (r : Result Decimal NumberFault) → n < 10 ^ 18 → decimal_of (decimal n) ≡ r → length (decimal n) < 2 ^ 30 → IsReading (length (decimal n)) (count_parts n) r → CountsBack n (decimal n)
count_read n (Ok d) small is few reading =
    let value = reading.3 in
    let product : n ≡ d.digits * 10 ^ value.zeros = sym (count_number n (omega arith)) ∙ value.trimmed.product in
    let negative : d.negative ≡ false = never d.negative (λ h. let wrong = (value.negative.0 h).0 in cc) in
    let whole = decimal_is_IsNumeral_wide n (omega arith) in
    let none : 0 + value.zeros ≡ value.zeros = omega arith in
    count_by n d.digits value.zeros d.exponent d refl refl is (digits_plain (decimal n) whole.0.1) negative product (λ h. value.exponent h ∙ ap (λ (x : ℕ). pos x) none) value.no_exponent
count_read n (Err NotANumber) small is few reading = absurd reading
count_read n (Err TooManyDigits) small is few (inl long) = absurd (omega arith)
count_read n (Err TooManyDigits) small is few (inr (inl large)) = absurd (omega arith)
count_read n (Err TooManyDigits) small is few (inr (inr many)) =
    let product : n ≡ many.digits * 10 ^ many.zeros = sym (count_number n (omega arith)) ∙ many.trimmed.product in
    let some : many.digits * 1 ≤ many.digits * 10 ^ many.zeros = mul-le many.digits 1 many.digits (10 ^ many.zeros) (omega arith) (ten_positive many.zeros) in
    absurd (omega (arith, many.many))

pub counts_read_back : (n : ℕ) → n < 10 ^ 18 → CountsBack n (decimal n)
counts_read_back n small =
    let size : length (decimal n) ≤ 64 = length-decimal-le_wide 64 n (omega arith) (omega arith) (omega arith) in
    count_read n (decimal_of (decimal n)) small refl (omega arith)
    (reading_is (decimal n) (decimal_of (decimal n)) refl (count_parts n) (count_spelled n (omega arith)))
