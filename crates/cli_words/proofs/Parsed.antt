-- A number below 2^64 is read as it is, and a larger one is refused.
use Rattle.std.proofs.Common.{◌≡◌, ◌^◌, ◌&&◌, ◌||◌, ◌==◌, not, ℕ, suc, zero, ◌<◌, Bool, true, false, cond, List, length, slice_index, nat_lt, Result, Ok, Err, Option, Some, None, refl, sym, ap, ◌∙◌, arith, rules}
use Rattle.std.specs.Str.{all_ascii_digits}
use Rattle.std.specs.Result.{result_ok}
use Rattle.std.specs.Str.Parse.{digits_value, digits_value_after, ParsesUnsigned}
use Rattle.std.proofs.lemmas.Str.Parse.{IsNumeralModel, parse_digits, numerals_by_fold}
use Rattle.std.proofs.lemmas.Bool.Decides.{nat_tests}
use Rattle.cli_words.specs.Numbers.{is_number, number_of}

own : IsNumeralModel (λ ds. all_ascii_digits ds ≡ true) (digits_value 10)
own = numerals_by_fold _ (search rules) (digits_value_after 10) (search rules)

digits_if : (d : Bool) (n : ℕ) (z : Bool) → (d && (n == 1 || (nat_lt 1 n && not z))) ≡ true → (d ≡ true) × (0 < n)
digits_if true zero z h = cc
digits_if true (suc n) z h = (refl, omega arith)
digits_if false n z h = cc

-- a number has digits alone, and one at least
digits_of : (bs : List ℕ) → is_number bs ≡ true → (all_ascii_digits bs ≡ true) × (0 < length bs)
digits_of bs is = digits_if (all_ascii_digits bs) (length bs) (slice_index bs 0 == 48) is

-- the number of a text, by whether it fits
number_if : (bs : List ℕ) (c : Bool) → is_number bs ≡ true → nat_lt (digits_value 10 bs) (2 ^ 64) ≡ c
    → number_of bs ≡ cond c (Some (digits_value 10 bs)) None
number_if bs c is fits =
    ap (λ b. cond (b && nat_lt (digits_value 10 bs) (2 ^ 64)) (Some (digits_value 10 bs)) None) is
    ∙ ap (λ b. cond b (Some (digits_value 10 bs)) None) fits

fits_true : (v k : ℕ) → v < k → nat_lt v k ≡ true
fits_true v k low = grind (arith, nat_tests)

fits_false : (v k : ℕ) → (v < k → ⊥) → nat_lt v k ≡ false
fits_false v k high = grind (arith, nat_tests)

-- the number of a text is what is read, or nothing where it is too large
pub parsed : {E : Type 0} (bs : List ℕ) (r : Result ℕ E) (o : Option ℕ) → ParsesUnsigned 64 10 bs r → is_number bs ≡ true
    → o ≡ result_ok r → o ≡ number_of bs
parsed {E = E} bs (Ok n) o h is read =
    let d = parse_digits own {E = E} 64 bs (Ok n) h (digits_of bs is).0 in
    read ∙ ap (λ k. Some k) d.1 ∙ sym (number_if bs true is (fits_true (digits_value 10 bs) (2 ^ 64) d.0.1))
parsed {E = E} bs (Err e) o h is read =
    let d = digits_of bs is in
    let far = parse_digits own {E = E} 64 bs (Err e) h d.0 in
    read ∙ sym (number_if bs false is (fits_false (digits_value 10 bs) (2 ^ 64) (λ low. far (d.1, low))))
