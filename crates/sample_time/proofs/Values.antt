-- The digits that are kept of a decimal are its number without trailing zeros.
use Rattle.std.proofs.Common.{◌≡◌, ◌≢◌, ℕ, zero, suc, ◌+◌, ◌*◌, ◌%◌, ◌^◌, ◌<◌, ◌≤◌, inl, inr, Bool, true, false, cond, eqb, ltb, List, [], ◌∷◌, Option, Some, None, option_and_then, MatchOption, arith, refl, subst}
use Rattle.std.specs.Char.{digit_value}
use Rattle.std.specs.Str.Parse.{AllDigits, digits_value_after}
use Rattle.std.proofs.lemmas.Bool.Decides.{nat_tests}
use Rattle.std.proofs.lemmas.Nat.{mod-mul-add, mul-le}
use Rattle.std.proofs.Common.{add-one}
use Rattle.std.proofs.Math.Nat.{pow-suc}
use Rattle.sample_time.proofs.Powers.{ten_positive}
use Rattle.sample_time.specs.declared.significand.Significand.{Significand}
use Rattle.sample_time.specs.Inner.Spelling.{IsTrimmed}
use Rattle.sample_time.specs.Reading.{push_digit, push_all}

-- n is some digits of 10 ^ 20 or more and zeros behind them
pub record IsMany (n : ℕ) : Type 0 where
  pub digits : ℕ
  pub zeros : ℕ
  pub trimmed : IsTrimmed n digits zeros
  pub many : 10 ^ 20 ≤ digits

last_digit : (n : ℕ) → (many : IsMany n) → many.digits % 10 ≢ 0
last_digit n many = elim many.trimmed.trimmed [ inl last ↦ last | inr none ↦ λ _. omega (arith, many.many) ]

one_place : (n d : ℕ) → suc d < 10 → IsTrimmed (n * 10 + suc d) (n * 10 + suc d) 0
one_place n d small =
    let last : (n * 10 + suc d) % 10 ≡ suc d = mod-mul-add n 10 (suc d) small in
    record { product = omega arith; trimmed = inl (λ none. omega arith) }

many_more : (n d : ℕ) → d < 10 → IsMany n → IsMany (n * 10 + d)
many_more n zero small many =
    let ten : 10 ^ (many.zeros + 1) ≡ 10 ^ many.zeros * 10 = rw add-one (pow-suc 10 many.zeros) in
    record { digits = many.digits; zeros = many.zeros + 1; trimmed = record { product = rw ten (omega arith); trimmed = inl (last_digit n many) }; many = many.many }
many_more n (suc d) small many =
    let whole : many.digits * 1 ≤ many.digits * 10 ^ many.zeros = mul-le many.digits 1 many.digits (10 ^ many.zeros) (omega arith) (ten_positive many.zeros) in
    record { digits = n * 10 + suc d; zeros = 0; trimmed = one_place n d small; many = omega (arith, many.many, many.trimmed.product) }

many_after : (ds : List ℕ) (n : ℕ) → AllDigits 10 ds → IsMany n → IsMany (digits_value_after 10 n ds)
many_after [] n all many = many
many_after (c ∷ cs) n all many = many_after cs (n * 10 + digit_value c) all.1 (many_more n (digit_value c) all.0 many)

-- what is kept of n
pub record IsKept (n : ℕ) (s : Significand) : Type 0 where
  pub trimmed : IsTrimmed n s.digits s.zeros
  pub few : s.digits < 10 ^ 20

abbrev pub Keeps : ℕ → Option Significand → Type 0
Keeps n o = MatchOption o (IsMany n) (IsKept n)

zero_kept : (b : Bool) (n : ℕ) (s : Significand) → eqb s.digits 0 ≡ b → IsKept n s → IsKept (n * 10 + 0) (cond b s (record { digits = s.digits; zeros = s.zeros + 1 }))
zero_kept true n s is kept =
    let none : s.digits ≡ 0 = grind (arith, nat_tests) in
    let nothing : n ≡ 0 * 10 ^ s.zeros = rw none at kept.trimmed.product in
    record { trimmed = record { product = rw none (omega arith); trimmed = kept.trimmed.trimmed }; few = kept.few }
zero_kept false n s is kept =
    let some : s.digits ≢ 0 = grind (arith, nat_tests) in
    let ten : 10 ^ (s.zeros + 1) ≡ 10 ^ s.zeros * 10 = rw add-one (pow-suc 10 s.zeros) in
    record {
      trimmed = record { product = rw ten (omega (arith, kept.trimmed.product)); trimmed = elim kept.trimmed.trimmed [ inl last ↦ inl last | inr none ↦ absurd (some none.0) ] };
      few = kept.few;
    }

next_digits : (n d : ℕ) (s : Significand) → IsKept n s → n * 10 + suc d ≡ s.digits * 10 ^ (s.zeros + 1) + suc d
next_digits n d s kept =
    let ten : 10 ^ (s.zeros + 1) ≡ 10 ^ s.zeros * 10 = rw add-one (pow-suc 10 s.zeros) in
    rw ten (omega (arith, kept.trimmed.product))

digit_kept_if : (b : Bool) (n d : ℕ) (s : Significand) → ltb (s.digits * 10 ^ (s.zeros + 1) + suc d) (10 ^ 20) ≡ b → suc d < 10 → IsKept n s → Keeps (n * 10 + suc d) (cond b (Some (record { digits = s.digits * 10 ^ (s.zeros + 1) + suc d; zeros = 0 })) None)
digit_kept_if true n d s is small kept =
    let same = next_digits n d s kept in
    let few : s.digits * 10 ^ (s.zeros + 1) + suc d < 10 ^ 20 = grind (arith, nat_tests) in
    record { trimmed = subst (λ (x : ℕ). IsTrimmed (n * 10 + suc d) x 0) same (one_place n d small); few = few }
digit_kept_if false n d s is small kept =
    let same = next_digits n d s kept in
    let many : 10 ^ 20 ≤ s.digits * 10 ^ (s.zeros + 1) + suc d = grind (arith, nat_tests) in
    record { digits = n * 10 + suc d; zeros = 0; trimmed = one_place n d small; many = omega (arith, same, many) }

digit_kept : (n d : ℕ) (s : Significand) → d < 10 → IsKept n s → Keeps (n * 10 + d) (push_digit s d)
unfolding push_digit
digit_kept n zero s small kept = zero_kept (eqb s.digits 0) n s refl kept
digit_kept n (suc d) s small kept =
    let some : eqb (suc d) 0 ≡ false = grind (arith, nat_tests) in
    rw some (digit_kept_if (ltb (s.digits * 10 ^ (s.zeros + 1) + suc d) (10 ^ 20)) n d s refl small kept)

pub then_kept : (o : Option Significand) (n : ℕ) (cs : List ℕ) → AllDigits 10 cs → Keeps n o → ((s : Significand) → IsKept n s → Keeps (digits_value_after 10 n cs) (push_all cs s)) → Keeps (digits_value_after 10 n cs) (option_and_then (push_all cs) o)
then_kept None n cs all many goes = many_after cs n all many
then_kept (Some s) n cs all kept goes = goes s kept

pub all_kept : (ds : List ℕ) (n : ℕ) (s : Significand) → AllDigits 10 ds → IsKept n s → Keeps (digits_value_after 10 n ds) (push_all ds s)
unfolding push_all
all_kept [] n s all kept = kept
all_kept (c ∷ cs) n s all kept =
    then_kept (push_digit s (digit_value c)) (n * 10 + digit_value c) cs all.1 (digit_kept n (digit_value c) s all.0 kept)
    (λ t next. all_kept cs (n * 10 + digit_value c) t all.1 next)
