-- What is read of a text is the reading of the parts that spell it.
use Rattle.std.proofs.Common.{◌≡◌, ◌≢◌, ℕ, ◌+◌, ◌*◌, ◌^◌, ◌<◌, ◌≤◌, ◌⊎◌, inl, inr, Bool, true, false, cond, eqb, ltb, leb, ◌&&◌, List, [], ◌∷◌, ◌++◌, length, Option, Some, None, Result, Ok, Err, IfOk, option_and_then, pos, ◌+ℤ◌, arith, refl, ◌∙◌, subst}
use Rattle.std.specs.Option.{option_map, ok_or}
use Rattle.std.specs.Char.{digit_value}
use Rattle.std.specs.Str.Parse.{AllDigits, digits_value_after}
use Rattle.std.proofs.lemmas.Bool.Decides.{nat_tests}
use Rattle.sample_time.specs.declared.decimal.Decimal.{Decimal}
use Rattle.sample_time.specs.declared.decimal.NumberFault.{NumberFault}
use Rattle.sample_time.specs.declared.decimal.NumberFault.TheVariants.{NotANumber, TooManyDigits}
use Rattle.sample_time.specs.declared.significand.Significand.{Significand}
use Rattle.sample_time.specs.Spelling.{DecimalText, power_size, power_of}
use Rattle.sample_time.specs.Inner.Spelling.{number_of, IsTrimmed, IsValue, IsFraction, IsReading, Spells}
use Rattle.sample_time.specs.Reading.{push_all, no_digits, with_exponent, value_of, value_at, parts_at, decimal_of}
use Rattle.sample_time.proofs.Spelled.{parts_spelled, parts_read}
use Rattle.sample_time.proofs.Values.{IsKept, Keeps, all_kept, then_kept}

pub after-append : (n : ℕ) (xs ys : List ℕ) → digits_value_after 10 n (xs ++ ys) ≡ digits_value_after 10 (digits_value_after 10 n xs) ys
after-append n [] ys = refl
after-append n (x ∷ xs) ys = after-append (n * 10 + digit_value x) xs ys

nothing_kept : IsKept 0 no_digits
nothing_kept = record { trimmed = record { product = omega arith; trimmed = inr (refl, refl) }; few = omega arith }

parts_kept : (parts : DecimalText) → AllDigits 10 parts.whole → AllDigits 10 parts.fraction → Keeps (number_of parts) (option_and_then (push_all parts.fraction) (push_all parts.whole no_digits))
parts_kept parts whole fraction =
    rw (after-append 0 parts.whole parts.fraction)
    (then_kept (push_all parts.whole no_digits) (digits_value_after 10 0 parts.whole) parts.fraction fraction
    (all_kept parts.whole 0 no_digits whole nothing_kept)
    (λ s kept. all_kept parts.fraction (digits_value_after 10 0 parts.whole) s fraction kept))

value_if : (none : Bool) (parts : DecimalText) (s : Significand) → eqb s.digits 0 ≡ none → IsKept (number_of parts) s → let d : Decimal = cond none (record { negative = false; digits = 0; exponent = pos 0 }) (record { negative = parts.negative; digits = s.digits; exponent = power_of parts +ℤ pos s.zeros }) in (d.digits < 10 ^ 20) × IsValue parts d
value_if true parts s test kept =
    let none : s.digits ≡ 0 = grind (arith, nat_tests) in
    let trimmed : IsTrimmed (number_of parts) 0 s.zeros = subst (λ (x : ℕ). IsTrimmed (number_of parts) x s.zeros) none kept.trimmed in
    (omega arith, record { zeros = s.zeros; trimmed = trimmed; exponent = λ some. absurd (omega arith); no_exponent = λ _. refl; negative = (λ h. absurd cc, λ h. absurd (omega arith)) })
value_if false parts s test kept =
    let some : 0 < s.digits = grind (arith, nat_tests) in
    (kept.few, record { zeros = s.zeros; trimmed = kept.trimmed; exponent = λ _. refl; no_exponent = λ none. absurd (omega arith); negative = (λ h. (h, some), λ h. h.0) })

kept_reads : (bytes : ℕ) (parts : DecimalText) (o : Option Significand) → bytes < 2 ^ 30 → power_size parts ≤ 9999 → Keeps (number_of parts) o → IsReading bytes parts (ok_or (option_map (with_exponent parts) o) TooManyDigits)
unfolding with_exponent
kept_reads bytes parts None short small many =
    inr (inr (record { digits = many.digits; zeros = many.zeros; trimmed = many.trimmed; many = many.many }))
kept_reads bytes parts (Some s) short small kept =
    let value = value_if (eqb s.digits 0) parts s refl kept in
    (short, small, value.0, value.1)

past_one : (a b : Bool) → (a && b) ≡ false → (a ≡ false) ⊎ (b ≡ false)
past_one true b test = inr test
past_one false b test = inl refl

limits_read : (small : Bool) (bytes : ℕ) (parts : DecimalText) (o : Option Significand) → (ltb bytes (2 ^ 30) && leb (power_size parts) 9999) ≡ small → Keeps (number_of parts) o → IsReading bytes parts (cond small (ok_or (option_map (with_exponent parts) o) TooManyDigits) (Err TooManyDigits))
limits_read true bytes parts o test kept = kept_reads bytes parts o (grind (arith, nat_tests)) (grind (arith, nat_tests)) kept
limits_read false bytes parts o test kept =
    elim (past_one (ltb bytes (2 ^ 30)) (leb (power_size parts) 9999) test) [
      | inl long ↦ inl (grind (arith, nat_tests))
      | inr large ↦ inr (inl (grind (arith, nat_tests)))
    ]

fraction_digits : (text ds : List ℕ) → IsFraction text ds → AllDigits 10 ds
fraction_digits text ds (inl none) = rw none.1 tt
fraction_digits text ds (inr point) = point.1.1

value_reads : (bytes : ℕ) (parts : DecimalText) → AllDigits 10 parts.whole → AllDigits 10 parts.fraction → IsReading bytes parts (value_of bytes parts)
unfolding value_of
value_reads bytes parts whole fraction =
    limits_read (ltb bytes (2 ^ 30) && leb (power_size parts) 9999) bytes parts _ refl (parts_kept parts whole fraction)

-- the answer is the reading of each spelling of the text
pub reading_is : (text : List ℕ) (answer : Result Decimal NumberFault) → answer ≡ decimal_of text → (parts : DecimalText) → Spells text parts → IsReading (length text) parts answer
unfolding decimal_of value_at
reading_is text answer is parts spells =
    rw (is, parts_spelled text parts spells)
    (value_reads (length text) parts spells.whole.1 (fraction_digits spells.fraction_text parts.fraction spells.fraction))

spelling_given : (text : List ℕ) (o : Option DecimalText) → parts_at text ≡ o → value_at (length text) o ≢ Err NotANumber → (parts : DecimalText) × Spells text parts
unfolding value_at
spelling_given text None is number = absurd (number refl)
spelling_given text (Some parts) is number = (parts, parts_read text parts is)

-- and a text whose answer is not that it is no number has a spelling
pub spelling_is : (text : List ℕ) (answer : Result Decimal NumberFault) → answer ≡ decimal_of text → answer ≢ Err NotANumber → (parts : DecimalText) × Spells text parts
unfolding decimal_of
spelling_is text answer is number =
    spelling_given text (parts_at text) refl (λ none. number (is ∙ none))

-- the digits of an answer are below 10 ^ 20
pub below_is : (text : List ℕ) (answer : Result Decimal NumberFault) → answer ≡ decimal_of text → IfOk answer (λ value. value.digits < 10 ^ 20)
below_is text (Ok value) is =
    let spelling = spelling_is text (Ok value) is (λ none. cc) in
    (reading_is text (Ok value) is spelling.0 spelling.1).2
below_is text (Err fault) is = tt
