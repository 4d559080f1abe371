-- Digits of texts.
use Rattle.std.proofs.Common.{◌≡◌, ℕ, ◌+◌, ◌-◌, ◌*◌, ◌<◌, ◌≤◌, Bool, true, false, cond, List, [], ◌∷◌, length, take, drop, get_or, suc, arith, refl, subst, sym, ap, ◌∙◌}
use Rattle.std.specs.List.{prefix_len}
use Rattle.std.specs.Char.{digit_value, is_ascii_digit}
use Rattle.std.specs.Int.{IsInRange}
use Rattle.std.specs.Str.Parse.{AllDigits, digits_value_after}
use Rattle.std.proofs.lemmas.Bool.Decides.{nat_tests}
use Rattle.std.proofs.lemmas.List.{at_drop_more, take_all}
use Rattle.std.specs.Prelude.{Some, None, option_and_then}
use Rattle.sample_time.specs.declared.significand.Significand.{Significand}
use Rattle.sample_time.specs.Reading.{push_digit, push_all}
use Rattle.std.proofs.lemmas.Str.Parse.{digit_at}

pub digit_value_is : (c : ℕ) → IsInRange 48 57 c → digit_value c ≡ c - 48
digit_value_is c digit = grind (arith, nat_tests)

pub digit_range : (ds : List ℕ) (i : ℕ) → AllDigits 10 ds → i < length ds → (48 ≤ get_or ds i 0) × (get_or ds i 0 ≤ 57)
digit_range ds i all within = let at = digit_at ds i all within in (omega arith, omega arith)

is_digit_below : (x : ℕ) → is_ascii_digit x ≡ true → digit_value x < 10
is_digit_below x is = grind (arith, nat_tests)

taken_more : (b : Bool) (x : ℕ) (xs : List ℕ) → is_ascii_digit x ≡ b → AllDigits 10 (take (prefix_len is_ascii_digit xs) xs) → AllDigits 10 (take (cond b (1 + prefix_len is_ascii_digit xs) 0) (x ∷ xs))
taken_more true x xs is rest =
    let more : 1 + prefix_len is_ascii_digit xs ≡ suc (prefix_len is_ascii_digit xs) = omega arith in
    rw more (is_digit_below x is, rest)
taken_more false x xs is rest = tt

-- the digits that a text begins with are digits
pub all_digits_taken : (xs : List ℕ) → AllDigits 10 (take (prefix_len is_ascii_digit xs) xs)
all_digits_taken [] = tt
all_digits_taken (x ∷ xs) = taken_more (is_ascii_digit x) x xs refl (all_digits_taken xs)

-- more digits make no number smaller
pub after_ge : (n : ℕ) (ds : List ℕ) → n ≤ digits_value_after 10 n ds
after_ge n [] = omega arith
after_ge n (c ∷ cs) = let more = after_ge (n * 10 + digit_value c) cs in omega arith

-- a text all of which is the digits that it begins with
pub all_digits : (xs : List ℕ) → prefix_len is_ascii_digit xs ≡ length xs → AllDigits 10 xs
all_digits xs whole =
    let digits = all_digits_taken xs in
    let all : take (prefix_len is_ascii_digit xs) xs ≡ xs = rw whole (take_all (length xs) xs (omega arith)) in
    subst (AllDigits 10) all digits

-- the number and the digits behind it, one digit on
pub after_more : (n i : ℕ) (ds : List ℕ) → AllDigits 10 ds → i < length ds → digits_value_after 10 n (drop i ds) ≡ digits_value_after 10 (n * 10 + (get_or ds i 0 - 48)) (drop (i + 1) ds)
after_more n i ds all within =
    at_drop_more (digits_value_after 10 n) ds i 0 within
    ∙ ap (λ d. digits_value_after 10 (n * 10 + d) (drop (i + 1) ds)) (digit_value_is (get_or ds i 0) (digit_at ds i all within))

pub push_all_more : (s : Significand) (i : ℕ) (ds : List ℕ) → AllDigits 10 ds → i < length ds → push_all (drop i ds) s ≡ option_and_then (push_all (drop (i + 1) ds)) (push_digit s (get_or ds i 0 - 48))
unfolding push_all
push_all_more s i ds all within =
    at_drop_more (λ cs. push_all cs s) ds i 0 within
    ∙ ap (λ d. option_and_then (push_all (drop (i + 1) ds)) (push_digit s d)) (digit_value_is (get_or ds i 0) (digit_at ds i all within))

pub push_all_goes_on : (s t : Significand) (i : ℕ) (ds : List ℕ) → AllDigits 10 ds → i < length ds → Some t ≡ push_digit s (get_or ds i 0 - 48) → push_all (drop i ds) s ≡ push_all (drop (i + 1) ds) t
push_all_goes_on s t i ds all within is =
    push_all_more s i ds all within ∙ ap (option_and_then (push_all (drop (i + 1) ds))) (sym is)

pub push_all_stops : (s : Significand) (i : ℕ) (ds : List ℕ) → AllDigits 10 ds → i < length ds → None ≡ push_digit s (get_or ds i 0 - 48) → push_all (drop i ds) s ≡ None
push_all_stops s i ds all within is =
    push_all_more s i ds all within ∙ ap (option_and_then (push_all (drop (i + 1) ds))) (sym is)
