-- As many elements as numbers, no two of one number: each number has one.
use Rattle.std.proofs.Common.{◌≡◌, ◌≢◌, ⊎_elim, ℕ, zero, suc, ◌+◌, ◌<◌, ◌≤◌, Bool, true, false, cond, ◌||◌, List, [], ◌∷◌, length, map, filter, nat_eq, refl, sym, ◌∙◌, ap, subst, arith, eq-eqb, eqb-true}
use Rattle.std.specs.List.{IsDistinct, AllByRecursion, list_any}
use Rattle.std.specs.Set.{is_member}
use Rattle.std.proofs.lemmas.Bool.{ne_eqb, false≢true, or_cases, or_left, or_right, cases_eq, cases_Bool, both_ways}
use Rattle.std.proofs.lemmas.Cmp.{nat_eq_equiv}
use Rattle.std.proofs.lemmas.List.{length-map}
use Rattle.std.proofs.lemmas.Map.Keys.{IsDistinct-cons}
use Rattle.std.proofs.lemmas.Map.Made.{length-le_from_is_member}
use Rattle.session_core.specs.Worlds.{Each}
use Rattle.session_core.proofs.Turns.{each_map}
use Rattle.live_laws.proofs.Eaches.{filter_none}

-- so many numbers over this one
abbrev over : ℕ → ℕ → List ℕ
over low zero = []
over low (suc size) = suc low ∷ over (suc low) size

length_over : (low size : ℕ) → length (over low size) ≡ size
length_over low zero = refl
length_over low (suc size) = ap suc (length_over (suc low) size)

in_over : (low size q : ℕ) → low < q → q ≤ low + size → is_member nat_eq (over low size) q ≡ true
in_over low zero q here there = absurd (omega arith)
in_over low (suc size) q here there =
    ⊎_elim
    (λ same. or_left (nat_eq q (suc low)) (is_member nat_eq (over (suc low) size) q) (eq-eqb q (suc low) same))
    (λ apart.
    let next : suc low < q = omega arith in
    let high : q ≤ suc low + size = omega arith in
    or_right (nat_eq q (suc low)) (is_member nat_eq (over (suc low) size) q) (in_over (suc low) size q next high))
    (cases_eq q (suc low))

module _ {M : Type 0} (number : M → ℕ) where
  -- no two elements have one number
  abbrev pub AreApart : List M → Type 0
  AreApart [] = Unit {0}
  AreApart (x ∷ xs) = Each (λ y. number x ≢ number y) xs × AreApart xs

  -- an element's number is one of so many over this one
  abbrev pub IsWithin : ℕ → ℕ → M → Type 0
  IsWithin low size x = (low < number x) × (number x ≤ low + size)

  -- the elements of a number
  abbrev pub of_number : ℕ → List M → List M
  of_number n xs = filter (λ x. nat_eq (number x) n) xs

  all_apart : (n : ℕ) (xs : List M) → Each (λ y. n ≢ number y) xs → AllByRecursion (λ k. nat_eq n k ≡ false) (map number xs)
  all_apart n [] each = tt
  all_apart n (x ∷ xs) each = (ne_eqb n (number x) each.0, all_apart n xs each.1)

  distinct : (xs : List M) → AreApart xs → IsDistinct nat_eq (map number xs)
  unfolding IsDistinct
  distinct [] apart = tt
  distinct (x ∷ xs) apart = (all_apart (number x) xs apart.0, distinct xs apart.1)

  in_there : (low size q : ℕ) (xs : List M) → Each (IsWithin low size) xs → is_member nat_eq (map number xs) q ≡ true → is_member nat_eq (over low size) q ≡ true
  in_there low size q [] within known = absurd (false≢true known)
  in_there low size q (x ∷ xs) within known =
      ⊎_elim
      (λ here. subst (λ (k : ℕ). is_member nat_eq (over low size) k ≡ true) (sym (eqb-true q (number x) here)) (in_over low size (number x) within.0.0 within.0.1))
      (λ there. in_there low size q xs within.1 there)
      (or_cases (nat_eq q (number x)) (is_member nat_eq (map number xs) q) known)

  none_step : (n : ℕ) (x : M) (xs : List M) (b : Bool) → nat_eq (number x) n ≡ b → (b || list_any (λ y. nat_eq (number y) n) xs) ≡ false
      → (list_any (λ y. nat_eq (number y) n) xs ≡ false → Each (λ y. n ≢ number y) xs) → Each (λ y. n ≢ number y) (x ∷ xs)
  none_step n x xs true is none rest = absurd (false≢true (sym none))
  none_step n x xs false is none rest = ((λ same. both_ways (nat_eq (number x) n) is (eq-eqb (number x) n (sym same))), rest none)

  none_apart : (n : ℕ) (xs : List M) → list_any (λ x. nat_eq (number x) n) xs ≡ false → Each (λ y. n ≢ number y) xs
  none_apart n [] none = tt
  none_apart n (x ∷ xs) none = none_step n x xs (nat_eq (number x) n) refl none (λ rest. none_apart n xs rest)

  -- where there are as many elements as numbers, each number is that of one of them
  pub has_one : (low size n : ℕ) (xs : List M) → AreApart xs → Each (IsWithin low size) xs → length xs ≡ size → low < n → n ≤ low + size
      → list_any (λ x. nat_eq (number x) n) xs ≡ true
  has_one low size n xs apart within count here there =
      ⊎_elim
      (λ known. known)
      (λ none.
      let more : length (n ∷ map number xs) ≤ length (over low size) =
      length-le_from_is_member nat_eq_equiv (n ∷ map number xs) (over low size)
      (IsDistinct-cons nat_eq n (map number xs) (all_apart n xs (none_apart n xs none)) (distinct xs apart))
      (λ q known. ⊎_elim
      (λ same. subst (λ (k : ℕ). is_member nat_eq (over low size) k ≡ true) (sym (eqb-true q n same)) (in_over low size n here there))
      (λ other. in_there low size q xs within other)
      (or_cases (nat_eq q n) (is_member nat_eq (map number xs) q) known)) in
      let long : length (over low size) ≡ size = length_over low size in
      let short : length (map number xs) ≡ length xs = length-map xs number in
      absurd (omega arith))
      (cases_Bool (list_any (λ x. nat_eq (number x) n) xs))

  -- one element, of this number, of which this holds
  abbrev pub IsOne : (M → Type 0) → ℕ → List M → Type 0
  IsOne P n xs = (x : M) × (xs ≡ x ∷ []) × (number x ≡ n) × P x

  one_step : (P : M → Type 0) (n : ℕ) (x : M) (xs : List M) (b : Bool) → nat_eq (number x) n ≡ b → Each (λ y. number x ≢ number y) xs → P x
      → (b || list_any (λ y. nat_eq (number y) n) xs) ≡ true → (list_any (λ y. nat_eq (number y) n) xs ≡ true → IsOne P n (of_number n xs))
      → IsOne P n (cond b (x ∷ of_number n xs) (of_number n xs))
  one_step P n x xs true is apart holds known there =
      let none : of_number n xs ≡ [] =
      filter_none (λ y. nat_eq (number y) n) xs
      (each_map (λ y. number x ≢ number y) (λ y. nat_eq (number y) n ≡ false)
      (λ y ne. ne_eqb (number y) n (λ same. ne (eqb-true (number x) n is ∙ sym same))) xs apart) in
      (x, ap (λ ys. x ∷ ys) none, eqb-true (number x) n is, holds)
  one_step P n x xs false is apart holds known there = there known

  -- where a number is that of an element, it is that of one alone
  pub is_one : (P : M → Type 0) (n : ℕ) (xs : List M) → AreApart xs → Each P xs → list_any (λ x. nat_eq (number x) n) xs ≡ true → IsOne P n (of_number n xs)
  is_one P n [] apart holds known = absurd (false≢true known)
  is_one P n (x ∷ xs) apart holds known =
      one_step P n x xs (nat_eq (number x) n) refl apart.0 holds.0 known (λ there. is_one P n xs apart.1 holds.1 there)

  -- a number of no element
  pub is_none : (low size n : ℕ) (xs : List M) → Each (IsWithin low size) xs → (low < n → n ≤ low + size → ⊥) → of_number n xs ≡ []
  is_none low size n xs within out =
      filter_none (λ x. nat_eq (number x) n) xs
      (each_map (IsWithin low size) (λ x. nat_eq (number x) n ≡ false)
      (λ x is. ne_eqb (number x) n (λ same. out (subst (λ (k : ℕ). low < k) same is.0) (subst (λ (k : ℕ). k ≤ low + size) same is.1))) xs within)
