-- The laws of lists and of options.
use Rattle.std.proofs.Common.{◌≡◌, ℕ, zero, suc, ◌<◌, ◌≤◌, true, List, [], ◌∷◌, length, refl, sym, ap, subst, arith}
use Rattle.std.specs.Prelude.{Option, Some, None, Result, Ok, Err, nat_lt, nat_le, ◌&&◌, ◌==◌}
use Rattle.std.proofs.lemmas.Bool.Decides.{nat_tests}
use Rattle.byte_forms.specs.Forms.{Form, ◌>>=◌, IsForm}
use Rattle.byte_forms.specs.Parts.{just, imaged, pair, option_of, read_as, FitsAs, code_as, with_first, second_of, byte_in, byte_below, byte_from_to, byte_is, presence_of, option_at, u32_form}
use Rattle.byte_forms.specs.Lists.{ItemsFit, items_code, items_at, consed, times, list_of}
use Rattle.byte_forms.proofs.Steps.{alike}
use Rattle.byte_forms.proofs.Laws.{just_law, imaged_law, pair_law, led_law}
use Rattle.byte_forms.proofs.Numbers.{byte_law, u32_law}

-- the first element, and the others
abbrev parts_of : {A : Type 0} → List A → Option (A × List A)
parts_of [] = None
parts_of (x ∷ xs) = Some (x, xs)

abbrev cons_of : {A : Type 0} → A × List A → List A
cons_of p = p.0 ∷ p.1

module _ {A : Type 0} (f : Form A) where
  empty_to : (v : List A) → v ≡ [] → (length v ≡ 0) × ItemsFit f v
  empty_to v e = subst (λ w. (length w ≡ 0) × ItemsFit f w) (sym e) (refl, tt)

  empty_back : (v : List A) → (length v ≡ 0) × ItemsFit f v → v ≡ []
  empty_back [] k = refl
  empty_back (x ∷ xs) k = absurd (omega (arith, k.0))

  empty_code : (v : List A) → v ≡ [] → items_code f v ≡ []
  empty_code v e = ap (items_code f) e

  more_to : (n : ℕ) (v : List A) → FitsAs (pair f (times f n)) cons_of v (parts_of v) → (length v ≡ suc n) × ItemsFit f v
  unfolding pair times
  more_to n [] k = absurd k
  more_to n (x ∷ xs) k = (ap suc k.1.1.0, (k.1.0, k.1.1.1))

  more_back : (n : ℕ) (v : List A) → (length v ≡ suc n) × ItemsFit f v → FitsAs (pair f (times f n)) cons_of v (parts_of v)
  unfolding pair times
  more_back n [] k = absurd (omega (arith, k.0))
  more_back n (x ∷ xs) k = (refl, (k.1.0, (omega (arith, k.0), k.1.1)))

  more_code : (n : ℕ) (v : List A) → items_code f v ≡ code_as (pair f (times f n)) (parts_of v)
  unfolding pair times
  more_code n [] = refl
  more_code n (x ∷ xs) = refl

  more_inner : (n : ℕ) (x : A) (r : Result (List A × List ℕ) ℕ)
      → (r >>= consed x) ≡ ((r >>= with_first x) >>= read_as cons_of)
  more_inner n x (Ok y) = refl
  more_inner n x (Err left) = refl

  more_read : (n : ℕ) (r : Result (A × List ℕ) ℕ)
      → (r >>= λ x. items_at f n x.1 >>= consed x.0) ≡ ((r >>= second_of (times f n)) >>= read_as cons_of)
  unfolding times
  more_read n (Ok x) = more_inner n x.0 (items_at f n x.1)
  more_read n (Err left) = refl

  pub times_law : IsForm f → (n : ℕ) → IsForm (times f n)
  unfolding times just pair imaged
  times_law h zero = alike (just []) (times f 0) empty_to empty_back empty_code (λ bytes. refl) (just_law [])
  times_law h (suc n) =
      alike (imaged (pair f (times f n)) cons_of parts_of) (times f (suc n)) (more_to n) (more_back n) (λ v k. more_code n v)
      (λ bytes. more_read n (f.read bytes))
      (imaged_law (pair f (times f n)) cons_of parts_of (pair_law f (times f n) h (times_law h n)) (λ a k. refl))

pub list_law : {A : Type 0} (f : Form A) → IsForm f → IsForm (list_of f)
unfolding list_of times
list_law f h = led_law u32_form length (times f) u32_law (λ n k. times_law f h n) (λ n v k l. l.0)

-- A byte below a number.

pub below_law : (count : ℕ) → 0 < count → count ≤ 256 → IsForm (byte_below count)
below_law count some most = byte_law (λ b. nat_lt b count) (0, (omega arith, grind (arith, nat_tests)))

-- a byte from one number to another, and one byte

pub from_to_law : (low high : ℕ) → low ≤ high → high < 256 → IsForm (byte_from_to low high)
from_to_law low high some most = byte_law (λ b. nat_le low b && nat_le b high) (low, (omega arith, grind (arith, nat_tests)))

pub is_law : (n : ℕ) → n < 256 → IsForm (byte_is n)
is_law n most = byte_law (λ b. b == n) (n, (omega arith, grind (arith, nat_tests)))

-- A value that may be there.

module _ {A : Type 0} (f : Form A) (h : IsForm f) where
  option_each : (n : ℕ) → IsForm (option_at f n)
  option_each zero = just_law None
  option_each (suc n) = imaged_law f Some (λ o. o) h (λ a k. refl)

  option_is : (n : ℕ) (v : Option A) → n < 2 → (option_at f n).fits v → presence_of v ≡ n
  unfolding just imaged
  option_is zero v k l = ap presence_of l
  option_is (suc zero) (Some a) k l = refl
  option_is (suc zero) None k l = absurd l
  option_is (suc (suc n)) v k l = absurd (omega arith)

  below_is : (b count : ℕ) → nat_lt b count ≡ true → b < count
  below_is b count h = grind (arith, nat_tests)

  pub option_law : IsForm (option_of f)
  unfolding option_of byte_in
  option_law =
      led_law (byte_below 2) presence_of (option_at f) (below_law 2 (omega arith) (omega arith)) (λ n k. option_each n)
      (λ n v k l. option_is n v (below_is n 2 k.1) l)
