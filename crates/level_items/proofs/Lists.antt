-- Lists in two parts: numbers that differ, an element put in, taken out or changed, and counts.
use Rattle.std.proofs.Common.{◌≡◌, ℕ, zero, suc, ◌+◌, ◌≤◌, Bool, true, false, not, ◌&&◌, ◌||◌, cond, List, [], ◌∷◌, ◌++◌, length, take, drop, nat_eq, nat_lt, count_by, refl, sym, ap, ◌∙◌, Some, None, arith}
use Rattle.std.specs.List.{list_any, list_all, slice_get, slice_set, position, position_or_len, AllWithin}
use Rattle.std.proofs.lemmas.Bool.{and_parts, and_from, or_parts, or_from, not-true, not_from_false, cond-true, cond-false, lt-ltb, le-ltb}
use Rattle.std.proofs.lemmas.Bool.Decides.{nat_tests}
use Rattle.std.proofs.lemmas.List.Sums.{sum_by-cons}
use Rattle.std.proofs.lemmas.Option.{slice_get_within}
use Rattle.level_items.specs.Levels.{are_different}

-- a test of a list in two parts
pub any_parts : {A : Type 0} (p : A → Bool) (xs : List A) (y : A) (ys : List A) → list_any p (xs ++ y ∷ ys) ≡ (p y || list_any p (xs ++ ys))
any_parts p [] y ys = refl
any_parts p (x ∷ xs) y ys = ap (λ b. p x || b) (any_parts p xs y ys) ∙ swap (p x) (p y) (list_any p (xs ++ ys))
  where
    swap : (a b c : Bool) → (a || (b || c)) ≡ (b || (a || c))
    swap true true c = refl
    swap true false c = refl
    swap false true c = refl
    swap false false c = refl

pub all_parts : {A : Type 0} (p : A → Bool) (xs : List A) (y : A) (ys : List A) → list_all p (xs ++ y ∷ ys) ≡ (p y && list_all p (xs ++ ys))
all_parts p [] y ys = refl
all_parts p (x ∷ xs) y ys = ap (λ b. p x && b) (all_parts p xs y ys) ∙ swap (p x) (p y) (list_all p (xs ++ ys))
  where
    swap : (a b c : Bool) → (a && (b && c)) ≡ (b && (a && c))
    swap true true c = refl
    swap true false c = refl
    swap false true c = refl
    swap false false c = refl

-- numbers that differ, with one number more
pub different_with : (xs : List ℕ) (n : ℕ) (ys : List ℕ) →
    are_different (xs ++ ys) ≡ true → list_any (nat_eq n) (xs ++ ys) ≡ false → are_different (xs ++ n ∷ ys) ≡ true
different_with [] n ys apart fresh = and_from _ _ (not_from_false _ fresh) apart
different_with (x ∷ xs) n ys apart fresh =
    let parts = and_parts (not (list_any (nat_eq x) (xs ++ ys))) (are_different (xs ++ ys)) apart in
    let news = or_parts (nat_eq n x) (list_any (nat_eq n) (xs ++ ys)) fresh in
    let other : nat_eq x n ≡ false = flip x n news.0 in
    let away : list_any (nat_eq x) (xs ++ n ∷ ys) ≡ false =
    any_parts (nat_eq x) xs n ys ∙ or_from _ _ other (not-true _ parts.0) in
    and_from _ _ (not_from_false _ away) (different_with xs n ys parts.1 news.1)
  where
    flip : (a b : ℕ) → nat_eq b a ≡ false → nat_eq a b ≡ false
    flip a b h = grind (arith, nat_tests)

-- and without it
pub different_without : (xs : List ℕ) (n : ℕ) (ys : List ℕ) → are_different (xs ++ n ∷ ys) ≡ true →
    (are_different (xs ++ ys) ≡ true) × (list_any (nat_eq n) (xs ++ ys) ≡ false)
different_without [] n ys apart =
    let parts = and_parts (not (list_any (nat_eq n) ys)) (are_different ys) apart in
    (parts.1, not-true _ parts.0)
different_without (x ∷ xs) n ys apart =
    let parts = and_parts (not (list_any (nat_eq x) (xs ++ n ∷ ys))) (are_different (xs ++ n ∷ ys)) apart in
    let rest = different_without xs n ys parts.1 in
    let away : (nat_eq x n || list_any (nat_eq x) (xs ++ ys)) ≡ false = sym (any_parts (nat_eq x) xs n ys) ∙ not-true _ parts.0 in
    let news = or_parts (nat_eq x n) (list_any (nat_eq x) (xs ++ ys)) away in
    let other : nat_eq n x ≡ false = flip n x news.0 in
    (and_from _ _ (not_from_false _ news.1) rest.0, or_from _ _ other rest.1)
  where
    flip : (a b : ℕ) → nat_eq b a ≡ false → nat_eq a b ≡ false
    flip a b h = grind (arith, nat_tests)

-- a list about one of its elements
pub around : {A : Type 0} (xs : List A) (i : ℕ) (x : A) → slice_get xs i ≡ Some x → take i xs ++ x ∷ drop (suc i) xs ≡ xs
around [] i x is = absurd cc
around (y ∷ ys) zero x is = let same : y ≡ x = cc in ap (λ z. z ∷ ys) (sym same)
around (y ∷ ys) (suc i) x is = ap (λ zs. y ∷ zs) (around ys i x is)

pub set_around : {A : Type 0} (xs : List A) (i : ℕ) (x y : A) → slice_get xs i ≡ Some x → slice_set xs i y ≡ take i xs ++ y ∷ drop (suc i) xs
set_around [] i x y is = absurd cc
set_around (z ∷ zs) zero x y is = refl
set_around (z ∷ zs) (suc i) x y is = ap (λ us. z ∷ us) (set_around zs i x y is)

-- the first place at which a test passes
first_at : {A : Type 0} (p : A → Bool) (xs : List A) (i : ℕ) (x : A) →
    slice_get xs i ≡ Some x → p x ≡ true → list_any p (take i xs) ≡ false → position_or_len p xs ≡ i
first_at p [] i x at passes before = absurd cc
first_at p (y ∷ ys) zero x at passes before =
    let same : y ≡ x = cc in
    ap (λ b. cond (not b) (1 + position_or_len p ys) 0) (ap p same ∙ passes)
first_at p (y ∷ ys) (suc i) x at passes before =
    let parts = or_parts (p y) (list_any p (take i ys)) before in
    let rest = first_at p ys i x at passes parts.1 in
    ap (λ b. cond (not b) (1 + position_or_len p ys) 0) parts.0 ∙ ap (λ n. 1 + n) rest ∙ one_more i
  where
    one_more : (n : ℕ) → 1 + n ≡ suc n
    one_more n = omega arith

pub position_is : {A : Type 0} (p : A → Bool) (xs : List A) (i : ℕ) (x : A) →
    slice_get xs i ≡ Some x → p x ≡ true → list_any p (take i xs) ≡ false → position p xs ≡ Some i
position_is p xs i x at passes before =
    let first = first_at p xs i x at passes before in
    let within = slice_get_within xs i x at in
    ap (λ n. cond (nat_lt n (length xs)) (Some n) None) first ∙ cond-true (nat_lt i (length xs)) (Some i) None (lt-ltb i (length xs) within)

none_at : {A : Type 0} (p : A → Bool) (xs : List A) → list_any p xs ≡ false → position_or_len p xs ≡ length xs
none_at p [] none = refl
none_at p (x ∷ xs) none =
    let parts = or_parts (p x) (list_any p xs) none in
    ap (λ b. cond (not b) (1 + position_or_len p xs) 0) parts.0 ∙ ap (λ n. 1 + n) (none_at p xs parts.1) ∙ one_more (length xs)
  where
    one_more : (n : ℕ) → 1 + n ≡ suc n
    one_more n = omega arith

pub position_none : {A : Type 0} (p : A → Bool) (xs : List A) → list_any p xs ≡ false → position p xs ≡ None
position_none p xs none =
    let end = none_at p xs none in
    ap (λ n. cond (nat_lt n (length xs)) (Some n) None) end ∙ cond-false (nat_lt (length xs) (length xs)) (Some (length xs)) None (le-ltb (length xs) (length xs) (omega arith))

-- the count of a test that passes up to a place and fails from there on
pub count_is : {A : Type 0} (p : A → Bool) (xs : List A) (i : ℕ) → i ≤ length xs →
    AllWithin (λ y. p y ≡ true) xs 0 i → AllWithin (λ y. p y ≡ false) xs i (length xs) → count_by p xs ≡ i
count_is p [] i within front back = omega arith
count_is p (x ∷ xs) zero within front back =
    let fails = back 0 x (omega arith) (omega arith) in
    sum_by-cons (λ y. cond (p y) 1 0) x xs ∙ ap (λ b. cond b 1 0 + count_by p xs) fails
    ∙ ap (λ n. 0 + n) (count_is p xs zero (omega arith) (λ k d low high. absurd (omega arith)) (λ k d low high. back (suc k) d (omega arith) (omega arith)))
count_is p (x ∷ xs) (suc i) within front back =
    let passes = front 0 x (omega arith) (omega arith) in
    let rest = count_is p xs i (omega arith) (λ k d low high. front (suc k) d (omega arith) (omega arith)) (λ k d low high. back (suc k) d (omega arith) (omega arith)) in
    sum_by-cons (λ y. cond (p y) 1 0) x xs ∙ ap (λ b. cond b 1 0 + count_by p xs) passes ∙ ap (λ n. 1 + n) rest ∙ one_more i
  where
    one_more : (n : ℕ) → 1 + n ≡ suc n
    one_more n = omega arith
