-- Lists of anything: what holds of each element, and lists that are cut at a place.
use Rattle.std.proofs.Common.{◌≡◌, ℕ, zero, suc, ◌+◌, ◌<◌, ◌≤◌, Bool, true, false, cond, List, [], ◌∷◌, ◌++◌, length, take, drop, filter, slice_get, Option, Some, None, Result, Ok, Err, IfOk, refl, sym, ◌∙◌, ap, subst, arith}
use Rattle.std.specs.Prelude.{slice_index_or}
use Rattle.std.specs.List.{AllWithin}
use Rattle.std.specs.List.Sorted.{IsPartitionedBy}
use Rattle.version_tree.specs.Inner.Pages.{Each}

pub each_append : {A : Type 0} (P : A → Type 0) (xs ys : List A) → Each P xs → Each P ys → Each P (xs ++ ys)
each_append P [] ys one two = two
each_append P (x ∷ xs) ys one two = (one.0, each_append P xs ys one.1 two)

pub each_parts : {A : Type 0} (P : A → Type 0) (xs ys : List A) → Each P (xs ++ ys) → Each P xs × Each P ys
each_parts P [] ys both = (tt, both)
each_parts P (x ∷ xs) ys both =
    let rest : Each P xs × Each P ys = each_parts P xs ys both.1 in
    ((both.0, rest.0), rest.1)

pub each_map : {A : Type 0} (P Q : A → Type 0) → ((x : A) → P x → Q x) → (xs : List A) → Each P xs → Each Q xs
each_map P Q f [] each = tt
each_map P Q f (x ∷ xs) each = (f x each.0, each_map P Q f xs each.1)

pub each_both : {A : Type 0} (P Q : A → Type 0) (xs : List A) → Each P xs → Each Q xs → Each (λ x. P x × Q x) xs
each_both P Q [] one two = tt
each_both P Q (x ∷ xs) one two = ((one.0, two.0), each_both P Q xs one.1 two.1)

pub each_filter : {A : Type 0} (P : A → Type 0) (test : A → Bool) (xs : List A) → Each P xs → Each P (filter test xs)
each_filter P test [] each = tt
each_filter P test (x ∷ xs) each = by (test x) (each_filter P test xs each.1)
  where
    by : (b : Bool) → Each P (filter test xs) → Each P (cond b (x ∷ filter test xs) (filter test xs))
    by true rest = (each.0, rest)
    by false rest = rest

pub each_take : {A : Type 0} (P : A → Type 0) (n : ℕ) (xs : List A) → Each P xs → Each P (take n xs)
each_take P zero xs each = tt
each_take P (suc n) [] each = tt
each_take P (suc n) (x ∷ xs) each = (each.0, each_take P n xs each.1)

pub each_drop : {A : Type 0} (P : A → Type 0) (n : ℕ) (xs : List A) → Each P xs → Each P (drop n xs)
each_drop P zero xs each = each
each_drop P (suc n) [] each = tt
each_drop P (suc n) (x ∷ xs) each = each_drop P n xs each.1

pub some_same : {A : Type 0} (x y : A) → Some x ≡ Some y → x ≡ y
some_same x y e = cc

pub each_at : {A : Type 0} (P : A → Type 0) (xs : List A) (k : ℕ) (x : A) → slice_get xs k ≡ Some x → Each P xs → P x
each_at P [] k x at each = absurd cc
each_at P (y ∷ xs) zero x at each = subst P (some_same y x at) each.0
each_at P (y ∷ xs) (suc k) x at each = each_at P xs k x at each.1

pub each_index : {A : Type 0} (P : A → Type 0) (xs : List A) (k : ℕ) (d : A) → k < length xs → Each P xs → P (slice_index_or xs k d)
each_index P [] k d lt each = absurd (omega (arith, lt))
each_index P (x ∷ xs) zero d lt each = each.0
each_index P (x ∷ xs) (suc k) d lt each = each_index P xs k d (omega (arith, lt)) each.1

-- The two sides of a partition point.

pub each_low : {A : Type 0} (P : A → Type 0) (xs : List A) (n : ℕ) → AllWithin P xs 0 n → Each P (take n xs)
each_low P xs zero low = tt
each_low P [] (suc n) low = tt
each_low P (x ∷ xs) (suc n) low =
    (low 0 x (omega arith) (omega arith), each_low P xs n (λ k d le lt. low (suc k) d (omega arith) (omega (arith, lt))))

pub each_high : {A : Type 0} (P : A → Type 0) (xs : List A) (n : ℕ) → AllWithin P xs n (length xs) → Each P (drop n xs)
each_high P [] zero high = tt
each_high P [] (suc n) high = tt
each_high P (x ∷ xs) zero high =
    (high 0 x (omega arith) (omega arith), each_high P xs zero (λ k d le lt. high (suc k) d (omega arith) (omega (arith, lt))))
each_high P (x ∷ xs) (suc n) high = each_high P xs n (λ k d le lt. high (suc k) d (omega (arith, le)) (omega (arith, lt)))

-- a relation holds of each element and each later one
abbrev pub Pairs : {A : Type 0} → (A → A → Type 0) → List A → Type 0
Pairs R [] = Unit {0}
Pairs R (x ∷ xs) = Each (R x) xs × Pairs R xs

-- where a test that passes at an element passes at each that is related to it, the list is split by the test
pub split_by : {A : Type 0} (R : A → A → Type 0) (p : A → Bool) → ((x y : A) → R x y → p y ≡ true → p x ≡ true) → (xs : List A) →
    Pairs R xs → IsPartitionedBy p xs
split_by R p f [] pairs i j d le lt is = absurd (omega (arith, lt))
split_by R p f (x ∷ xs) pairs zero zero d le lt is = is
split_by R p f (x ∷ xs) pairs zero (suc j) d le lt is =
    f x (slice_index_or xs j d) (each_index (R x) xs j d (omega (arith, lt)) pairs.0) is
split_by R p f (x ∷ xs) pairs (suc i) zero d le lt is = absurd (omega (arith, le))
split_by R p f (x ∷ xs) pairs (suc i) (suc j) d le lt is =
    split_by R p f xs pairs.1 i j d (omega (arith, le)) (omega (arith, lt)) is

-- A list that is cut at a place.

pub split_at : {A : Type 0} (xs : List A) (k : ℕ) (x : A) → slice_get xs k ≡ Some x → xs ≡ take k xs ++ x ∷ drop (suc k) xs
split_at [] k x at = absurd cc
split_at (y ∷ xs) zero x at = ap (λ z. z ∷ xs) (some_same y x at)
split_at (y ∷ xs) (suc k) x at = ap (λ zs. y ∷ zs) (split_at xs k x at)

pub take_next : {A : Type 0} (xs : List A) (k : ℕ) (x : A) → slice_get xs k ≡ Some x → take (suc k) xs ≡ take k xs ++ x ∷ []
take_next [] k x at = absurd cc
take_next (y ∷ xs) zero x at = ap (λ z. z ∷ []) (some_same y x at)
take_next (y ∷ xs) (suc k) x at = ap (λ zs. y ∷ zs) (take_next xs k x at)

pub drop_next : {A : Type 0} (xs : List A) (k : ℕ) (x : A) → slice_get xs k ≡ Some x → drop k xs ≡ x ∷ drop (suc k) xs
drop_next [] k x at = absurd cc
drop_next (y ∷ xs) zero x at = ap (λ z. z ∷ xs) (some_same y x at)
drop_next (y ∷ xs) (suc k) x at = drop_next xs k x at

pub first_behind : {A : Type 0} (xs : List A) (k : ℕ) → slice_get xs k ≡ slice_get (drop k xs) 0
first_behind [] zero = refl
first_behind [] (suc k) = refl
first_behind (x ∷ xs) zero = refl
first_behind (x ∷ xs) (suc k) = first_behind xs k

pub whole : {A : Type 0} (n : ℕ) (xs : List A) → xs ≡ take n xs ++ drop n xs
whole zero xs = refl
whole (suc n) [] = refl
whole (suc n) (x ∷ xs) = ap (λ zs. x ∷ zs) (whole n xs)

pub is_there : {A : Type 0} (xs : List A) (k : ℕ) (x : A) → slice_get xs k ≡ Some x → k < length xs
is_there [] k x at = absurd cc
is_there (y ∷ xs) zero x at = omega arith
is_there (y ∷ xs) (suc k) x at = let lt = is_there xs k x at in omega arith

pub found_at : {A : Type 0} (xs : List A) (k : ℕ) (x : A) → x ≡ slice_index_or xs k x → k < length xs → slice_get xs k ≡ Some x
found_at [] k x is lt = absurd (omega (arith, lt))
found_at (y ∷ xs) zero x is lt = ap Some (sym is)
found_at (y ∷ xs) (suc k) x is lt = found_at xs k x is (omega (arith, lt))

pub get_first : {A : Type 0} (xs ys : List A) (k : ℕ) → k < length xs → slice_get (xs ++ ys) k ≡ slice_get xs k
get_first [] ys k lt = absurd (omega (arith, lt))
get_first (x ∷ xs) ys zero lt = refl
get_first (x ∷ xs) ys (suc k) lt = get_first xs ys k (omega (arith, lt))

pub get_second : {A : Type 0} (xs ys : List A) (j k : ℕ) → k ≡ length xs + j → slice_get (xs ++ ys) k ≡ slice_get ys j
get_second [] ys j k is = let same : k ≡ j = omega (arith, is) in ap (slice_get ys) same
get_second (x ∷ xs) ys j zero is = absurd (omega (arith, is))
get_second (x ∷ xs) ys j (suc k) is = get_second xs ys j k (omega (arith, is))

pub drop_end : {A : Type 0} (xs : List A) → drop (length xs) xs ≡ []
drop_end [] = refl
drop_end (x ∷ xs) = drop_end xs

-- the element at a place that is in range
pub has_one : {A : Type 0} (xs : List A) (k : ℕ) → k < length xs → (x : A) × (slice_get xs k ≡ Some x)
has_one [] k lt = absurd (omega (arith, lt))
has_one (x ∷ xs) zero lt = (x, refl)
has_one (x ∷ xs) (suc k) lt = has_one xs k (omega (arith, lt))

-- what follows for each value that an answer may have
pub if_ok : {A E : Type 0} (P Q : A → Type 0) → ((x : A) → P x → Q x) → (r : Result A E) → IfOk r P → IfOk r Q
if_ok P Q f (Ok x) is = f x is
if_ok P Q f (Err e) is = is
