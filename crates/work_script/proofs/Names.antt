-- The name of a bundle of the script of work is one.
use Rattle.std.proofs.Common.{◌≡◌, ℕ, zero, suc, ◌+◌, ◌/◌, ◌%◌, ◌<◌, Bool, true, false, ◌&&◌, List, [], ◌∷◌, refl, sym, subst, arith}
use Rattle.std.proofs.lemmas.Fmt.{decimal_digit}
use Rattle.std.proofs.Math.Nat.{mod-lt}
use Rattle.emu_names.specs.Name.{is_clean, is_name}
use Rattle.work_script.specs.Script.{five_digits}

digit_clean : (d : ℕ) → d < 10 → is_clean (48 + d) ≡ true
digit_clean zero low = refl
digit_clean (suc zero) low = refl
digit_clean (suc (suc zero)) low = refl
digit_clean (suc (suc (suc zero))) low = refl
digit_clean (suc (suc (suc (suc zero)))) low = refl
digit_clean (suc (suc (suc (suc (suc zero))))) low = refl
digit_clean (suc (suc (suc (suc (suc (suc zero)))))) low = refl
digit_clean (suc (suc (suc (suc (suc (suc (suc zero))))))) low = refl
digit_clean (suc (suc (suc (suc (suc (suc (suc (suc zero)))))))) low = refl
digit_clean (suc (suc (suc (suc (suc (suc (suc (suc (suc zero))))))))) low = refl
digit_clean (suc (suc (suc (suc (suc (suc (suc (suc (suc (suc n)))))))))) low = absurd (omega (arith, low))

all_clean : (p q r s t : Bool) → p ≡ true → q ≡ true → r ≡ true → s ≡ true → t ≡ true → (p && (q && (r && (s && (t && true))))) ≡ true
all_clean true true true true true a b c d e = refl
all_clean true true true true false a b c d e = e
all_clean true true true false t a b c d e = d
all_clean true true false s t a b c d e = c
all_clean true false r s t a b c d e = b
all_clean false q r s t a b c d e = a

clean_name : (a b c d e : ℕ) → a < 10 → b < 10 → c < 10 → d < 10 → e < 10 → is_name (98 ∷ (48 + a) ∷ (48 + b) ∷ (48 + c) ∷ (48 + d) ∷ (48 + e) ∷ []) ≡ true
clean_name a b c d e la lb lc ld le =
    all_clean (is_clean (48 + a)) (is_clean (48 + b)) (is_clean (48 + c)) (is_clean (48 + d)) (is_clean (48 + e))
    (digit_clean a la) (digit_clean b lb) (digit_clean c lc) (digit_clean d ld) (digit_clean e le)

digit : (n : ℕ) → n % 10 < 10
digit n = mod-lt n (omega arith)

five : (k : ℕ) → five_digits k ≡ (48 + k / 10000 % 10) ∷ (48 + k / 1000 % 10) ∷ (48 + k / 100 % 10) ∷ (48 + k / 10 % 10) ∷ (48 + k % 10) ∷ []
five k =
    rw (decimal_digit (k / 10000 % 10) (digit (k / 10000)), decimal_digit (k / 1000 % 10) (digit (k / 1000)), decimal_digit (k / 100 % 10) (digit (k / 100)), decimal_digit (k / 10 % 10) (digit (k / 10)), decimal_digit (k % 10) (digit k))
    refl

pub is_bundle_name : (k : ℕ) → is_name (98 ∷ five_digits k) ≡ true
is_bundle_name k =
    subst (λ (digits : List ℕ). is_name (98 ∷ digits) ≡ true) (sym (five k))
    (clean_name (k / 10000 % 10) (k / 1000 % 10) (k / 100 % 10) (k / 10 % 10) (k % 10) (digit (k / 10000)) (digit (k / 1000)) (digit (k / 100)) (digit (k / 10)) (digit k))
