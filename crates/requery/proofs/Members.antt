-- Which numbers are among those that pass a test.
use Rattle.std.proofs.Common.{◌≡◌, ℕ, zero, suc, ◌+◌, ◌<◌, ◌≤◌, ◌⊎◌, inl, inr, Bool, true, false, cond, ◌||◌, ◌&&◌, List, [], ◌∷◌, Some, refl, sym, ap, ◌∙◌, arith, nat_le, nat_lt}
use Rattle.std.specs.Prelude.{nat_eq, min, max}
use Rattle.std.specs.List.{filter, list_any, range_with_len}
use Rattle.std.proofs.lemmas.Bool.{and_parts, ltb-true, cases_lt}
use Rattle.std.proofs.lemmas.Bool.Decides.{nat_tests}
use Rattle.eql_tuples.specs.Shown.{bare}
use Rattle.eql_rows.specs.Rows.{least, greatest}
use Rattle.requery.specs.Reach.{whole_stretch}

-- a number is among some
abbrev pub is_in : ℕ → List ℕ → Bool
is_in k ks = list_any (nat_eq k) ks

found_front : (p : Bool) (x k : ℕ) (ks : List ℕ) → is_in x (cond p (k ∷ ks) ks) ≡ ((p && nat_eq x k) || is_in x ks)
found_front true x k ks = refl
found_front false x k ks = refl

first_by : (a b : Bool) → ((a && true) || (a && (false && b))) ≡ (a && true)
first_by true b = refl
first_by false b = refl

other_by : (a b : Bool) → ((a && false) || b) ≡ b
other_by true b = refl
other_by false b = refl

and_false : (a : Bool) → (a && false) ≡ false
and_false true = refl
and_false false = refl

and_true : (a : Bool) → (a && true) ≡ a
and_true true = refl
and_true false = refl

at_front : (p : ℕ → Bool) (x k : ℕ) (rest : Bool) (m : ℕ) (same : Bool) → nat_eq x k ≡ same →
    rest ≡ (p x && (nat_le (k + 1) x && nat_lt x (k + 1 + m))) →
    ((p k && nat_eq x k) || rest) ≡ (p x && (nat_le k x && nat_lt x (k + suc m)))
at_front p x k rest m true e is =
    let eq : x ≡ k = grind (arith, nat_tests) in
    let below : nat_le (k + 1) x ≡ false = grind (arith, nat_tests) in
    let here : (nat_le k x && nat_lt x (k + suc m)) ≡ true = grind (arith, nat_tests) in
    let nothing : rest ≡ (p x && (false && nat_lt x (k + 1 + m))) = is ∙ ap (λ b. p x && (b && nat_lt x (k + 1 + m))) below in
    (λ i. (p (sym eq i) && e i) || nothing i) ∙ first_by (p x) (nat_lt x (k + 1 + m)) ∙ ap (λ b. p x && b) (sym here)
at_front p x k rest m false e is =
    let same : (nat_le (k + 1) x && nat_lt x (k + 1 + m)) ≡ (nat_le k x && nat_lt x (k + suc m)) = grind (arith, nat_tests) in
    (λ i. (p k && e i) || is i) ∙ other_by (p k) (p x && (nat_le (k + 1) x && nat_lt x (k + 1 + m))) ∙ ap (λ b. p x && b) same

in_range : (p : ℕ → Bool) (x k m : ℕ) → is_in x (filter p (range_with_len k m)) ≡ (p x && (nat_le k x && nat_lt x (k + m)))
in_range p x k zero =
    let out : (nat_le k x && nat_lt x (k + 0)) ≡ false = grind (arith, nat_tests) in
    sym (ap (λ b. p x && b) out ∙ and_false (p x))
in_range p x k (suc m) =
    found_front (p k) x k (filter p (range_with_len (k + 1) m))
    ∙ at_front p x k (is_in x (filter p (range_with_len (k + 1) m))) m (nat_eq x k) refl (in_range p x (k + 1) m)

-- a position is among those that pass a test exactly where it passes
pub is_kept : (p : ℕ → Bool) (x n : ℕ) → x < n → is_in x (filter p (range_with_len 0 n)) ≡ p x
is_kept p x n h =
    let within : (nat_le 0 x && nat_lt x (0 + n)) ≡ true = grind (arith, nat_tests) in
    in_range p x 0 n ∙ ap (λ b. p x && b) within ∙ and_true (p x)

-- what is among them passes the test, and is one of the numbers
pub kept_is : (p : ℕ → Bool) (x n : ℕ) → is_in x (filter p (range_with_len 0 n)) ≡ true → (p x ≡ true) × (x < n)
kept_is p x n is =
    let both = and_parts (p x) (nat_le 0 x && nat_lt x (0 + n)) (sym (in_range p x 0 n) ∙ is) in
    let range = and_parts (nat_le 0 x) (nat_lt x (0 + n)) both.1 in
    (both.0, let high = ltb-true x (0 + n) range.1 in omega arith)

-- ---- the least and the greatest of some numbers

one_of : (a b c : Bool) → (a || (b || c)) ≡ true → (a ≡ true) ⊎ ((b ≡ true) ⊎ (c ≡ true))
one_of true b c is = inl refl
one_of false true c is = inr (inl refl)
one_of false false c is = inr (inr is)

or_true : (a b : Bool) → b ≡ true → (a || b) ≡ true
or_true true b is = refl
or_true false b is = is

or_left : (a b : Bool) → a ≡ true → (a || b) ≡ true
or_left true b is = refl
or_left false b is = absurd cc

pub least_under : (n : ℕ) (ns : List ℕ) → least n ns ≤ n
least_under n [] = omega arith
least_under n (m ∷ ms) = let low = least_under (min n m) ms in omega arith

pub greatest_over : (n : ℕ) (ns : List ℕ) → n ≤ greatest n ns
greatest_over n [] = omega arith
greatest_over n (m ∷ ms) = let high = greatest_over (max n m) ms in omega arith

same_number : (k n : ℕ) → nat_eq k n ≡ true → k ≡ n
same_number k n is = grind (arith, nat_tests)

itself : (k : ℕ) → nat_eq k k ≡ true
itself k = grind (arith, nat_tests)

pub least_low : (n : ℕ) (ns : List ℕ) (k : ℕ) → is_in k (n ∷ ns) ≡ true → least n ns ≤ k
least_low n [] k is = low_one (nat_eq k n) refl is
  where
    low_one : (b : Bool) → nat_eq k n ≡ b → (b || false) ≡ true → n ≤ k
    low_one true e is = let same = same_number k n e in omega arith
    low_one false e is = absurd cc
least_low n (m ∷ ms) k is =
    elim (one_of (nat_eq k n) (nat_eq k m) (is_in k ms) is) [
      | inl e ↦ let same = same_number k n e in let low = least_under (min n m) ms in omega arith
      | inr others ↦ elim others [
        | inl e ↦ let same = same_number k m e in let low = least_under (min n m) ms in omega arith
        | inr e ↦ least_low (min n m) ms k (or_true (nat_eq k (min n m)) (is_in k ms) e)
      ]
    ]

pub greatest_high : (n : ℕ) (ns : List ℕ) (k : ℕ) → is_in k (n ∷ ns) ≡ true → k ≤ greatest n ns
greatest_high n [] k is = high_one (nat_eq k n) refl is
  where
    high_one : (b : Bool) → nat_eq k n ≡ b → (b || false) ≡ true → k ≤ n
    high_one true e is = let same = same_number k n e in omega arith
    high_one false e is = absurd cc
greatest_high n (m ∷ ms) k is =
    elim (one_of (nat_eq k n) (nat_eq k m) (is_in k ms) is) [
      | inl e ↦ let same = same_number k n e in let high = greatest_over (max n m) ms in omega arith
      | inr others ↦ elim others [
        | inl e ↦ let same = same_number k m e in let high = greatest_over (max n m) ms in omega arith
        | inr e ↦ greatest_high (max n m) ms k (or_true (nat_eq k (max n m)) (is_in k ms) e)
      ]
    ]

min_one : (n m : ℕ) → (min n m ≡ n) ⊎ (min n m ≡ m)
min_one n m = elim (cases_lt n m) [ inl h ↦ inl (omega arith) | inr h ↦ inr (omega arith) ]

max_one : (n m : ℕ) → (max n m ≡ n) ⊎ (max n m ≡ m)
max_one n m = elim (cases_lt n m) [ inl h ↦ inr (omega arith) | inr h ↦ inl (omega arith) ]

front_of : (x a n m : ℕ) (ms : List ℕ) → (a ≡ n) ⊎ (a ≡ m) → is_in x (a ∷ ms) ≡ true → is_in x (n ∷ m ∷ ms) ≡ true
front_of x a n m ms (inl e) is = by (nat_eq x n) (is_in x ms) (ap (λ k. nat_eq x k || is_in x ms) (sym e) ∙ is)
  where
    by : (b c : Bool) → (b || c) ≡ true → (b || (nat_eq x m || c)) ≡ true
    by true c is = refl
    by false c is = or_true (nat_eq x m) c is
front_of x a n m ms (inr e) is = or_true (nat_eq x n) (nat_eq x m || is_in x ms) (ap (λ k. nat_eq x k || is_in x ms) (sym e) ∙ is)

pub least_in : (n : ℕ) (ns : List ℕ) → is_in (least n ns) (n ∷ ns) ≡ true
least_in n [] = or_left (nat_eq n n) false (itself n)
least_in n (m ∷ ms) = front_of (least (min n m) ms) (min n m) n m ms (min_one n m) (least_in (min n m) ms)

pub greatest_in : (n : ℕ) (ns : List ℕ) → is_in (greatest n ns) (n ∷ ns) ≡ true
greatest_in n [] = or_left (nat_eq n n) false (itself n)
greatest_in n (m ∷ ms) = front_of (greatest (max n m) ms) (max n m) n m ms (max_one n m) (greatest_in (max n m) ms)

-- the stretch of some numbers, of which these are the least and the greatest
pub whole_is : (ks : List ℕ) (f l : ℕ) → is_in f ks ≡ true → is_in l ks ≡ true → ((k : ℕ) → is_in k ks ≡ true → (f ≤ k) × (k ≤ l)) →
    Some (bare f l) ≡ whole_stretch ks
whole_is [] f l first last all = absurd cc
whole_is (n ∷ ns) f l first last all =
    let low = all (least n ns) (least_in n ns) in
    let high = all (greatest n ns) (greatest_in n ns) in
    let under = least_low n ns f first in
    let over = greatest_high n ns l last in
    let f_is : f ≡ least n ns = omega arith in
    let l_is : l ≡ greatest n ns = omega arith in
    λ i. Some (bare (f_is i) (l_is i))
