-- What two filters do to one list.
use Rattle.std.proofs.Common.{◌≡◌, Bool, true, false, List, [], ◌∷◌, ◌++◌, None, Some, refl, ap, ◌∙◌, cond, not}
use Rattle.std.specs.List.{filter, find, list_any}
use Rattle.std.proofs.lemmas.List.{append-nil}
use Rattle.std.proofs.lemmas.List.Elements.{filter-append}
use Rattle.std.proofs.lemmas.Bool.{or_parts}

-- an element that is put last
pushed : {X : Type 0} (xs : List X) (x : X) (b : Bool) → xs ++ cond b (x ∷ []) [] ≡ cond b (xs ++ x ∷ []) xs
pushed xs x true = refl
pushed xs x false = append-nil xs

pub filter_push : {X : Type 0} (p : X → Bool) (xs : List X) (x : X) → filter p (xs ++ x ∷ []) ≡ cond (p x) (filter p xs ++ x ∷ []) (filter p xs)
filter_push p xs x = filter-append p xs (x ∷ []) ∙ pushed (filter p xs) x (p x)

module _ {X : Type 0} (p q : X → Bool) (x : X) (xs : List X) where
  swap_at : (a b : Bool) → p x ≡ a → q x ≡ b → filter p (filter q xs) ≡ filter q (filter p xs) →
      filter p (filter q (x ∷ xs)) ≡ filter q (filter p (x ∷ xs))
  swap_at true true e f h = rw (f, e, f) (ap (λ ys. x ∷ ys) h)
  swap_at true false e f h = rw (f, e, f) h
  swap_at false true e f h = rw (f, e) h
  swap_at false false e f h = rw (f, e) h

  off_at : (a b : Bool) → p x ≡ a → q x ≡ b → (a ≡ true → b ≡ true) → filter p (filter q xs) ≡ filter p xs →
      filter p (filter q (x ∷ xs)) ≡ filter p (x ∷ xs)
  off_at true true e f g h = rw (f, e) (ap (λ ys. x ∷ ys) h)
  off_at true false e f g h = cc (g refl)
  off_at false true e f g h = rw (f, e) h
  off_at false false e f g h = rw (f, e) h

  none_at : (a b : Bool) → p x ≡ a → q x ≡ b → (a ≡ true → b ≡ false) → filter p (filter q xs) ≡ [] → filter p (filter q (x ∷ xs)) ≡ []
  none_at true true e f g h = cc (g refl)
  none_at true false e f g h = rw f h
  none_at false true e f g h = rw (f, e) h
  none_at false false e f g h = rw f h

-- the order of two filters is no matter
pub filter_swap : {X : Type 0} (p q : X → Bool) (xs : List X) → filter p (filter q xs) ≡ filter q (filter p xs)
filter_swap p q [] = refl
filter_swap p q (x ∷ xs) = swap_at p q x xs (p x) (q x) refl refl (filter_swap p q xs)

-- a filter that keeps all that the other keeps
pub filter_off : {X : Type 0} (p q : X → Bool) → ((x : X) → p x ≡ true → q x ≡ true) → (xs : List X) → filter p (filter q xs) ≡ filter p xs
filter_off p q h [] = refl
filter_off p q h (x ∷ xs) = off_at p q x xs (p x) (q x) refl refl (h x) (filter_off p q h xs)

-- a filter that keeps nothing that the other keeps
pub filter_none : {X : Type 0} (p q : X → Bool) → ((x : X) → p x ≡ true → q x ≡ false) → (xs : List X) → filter p (filter q xs) ≡ []
filter_none p q h [] = refl
filter_none p q h (x ∷ xs) = none_at p q x xs (p x) (q x) refl refl (h x) (filter_none p q h xs)

-- nothing passes both p and r, so p keeps only what q keeps
module _ {X : Type 0} (p q r : X → Bool) (h : (x : X) → p x ≡ true → r x ≡ false → q x ≡ true) where
  rest_at : (x : X) (xs : List X) (c : Bool) → r x ≡ c → list_any p (filter r (x ∷ xs)) ≡ false → list_any p (filter r xs) ≡ false
  rest_at x xs true e k = (or_parts (p x) (list_any p (filter r xs)) (rw e at k)).1
  rest_at x xs false e k = rw e at k

  here_at : (x : X) (xs : List X) (c : Bool) → r x ≡ c → list_any p (filter r (x ∷ xs)) ≡ false → p x ≡ true → r x ≡ false
  here_at x xs true e k passes =
      let low : p x ≡ false = (or_parts (p x) (list_any p (filter r xs)) (rw e at k)).0 in
      cc
  here_at x xs false e k passes = e

  pub filter_off_none : (xs : List X) → list_any p (filter r xs) ≡ false → filter p (filter q xs) ≡ filter p xs
  filter_off_none [] k = refl
  filter_off_none (x ∷ xs) k =
      off_at p q x xs (p x) (q x) refl refl (λ passes. h x passes (here_at x xs (r x) refl k passes))
      (filter_off_none xs (rest_at x xs (r x) refl k))

-- the first that passes two tests is the first of the first test that passes the second
module _ {X : Type 0} (p q r : X → Bool) (both : (x : X) → r x ≡ cond (p x) (q x) false) where
  find_at : (x : X) (xs : List X) (a b : Bool) → p x ≡ a → q x ≡ b → find q (filter p xs) ≡ find r xs → find q (filter p (x ∷ xs)) ≡ find r (x ∷ xs)
  find_at x xs true true e f h = rw (both x, e, f) refl
  find_at x xs true false e f h = rw (both x, e, f) h
  find_at x xs false b e f h = rw (both x, e) h

  pub find_both : (xs : List X) → find q (filter p xs) ≡ find r xs
  find_both [] = refl
  find_both (x ∷ xs) = find_at x xs (p x) (q x) refl refl (find_both xs)

-- where nothing is found, nothing passes
module _ {X : Type 0} (p q r : X → Bool) (both : (x : X) → p x ≡ true → q x ≡ true → r x ≡ true) where
  lost_at : (x : X) (xs : List X) (a b c : Bool) → p x ≡ a → q x ≡ b → r x ≡ c → find r (x ∷ xs) ≡ None →
      (find r xs ≡ None → list_any q (filter p xs) ≡ false) → list_any q (filter p (x ∷ xs)) ≡ false
  lost_at x xs a b true e f g k h = let found : Some x ≡ None = rw g at k in cc
  lost_at x xs true true false e f g k h = let passes : r x ≡ true = both x e f in cc
  lost_at x xs true false false e f g k h = rw (e, f) (h (rw g at k))
  lost_at x xs false b false e f g k h = rw e (h (rw g at k))

  pub none_found : (xs : List X) → find r xs ≡ None → list_any q (filter p xs) ≡ false
  none_found [] k = refl
  none_found (x ∷ xs) k = lost_at x xs (p x) (q x) (r x) refl refl refl k (none_found xs)

-- where nothing passes, the filter of the others keeps all
module _ {X : Type 0} (q : X → Bool) where
  all_at : (x : X) (xs : List X) (a : Bool) → q x ≡ a → list_any q (x ∷ xs) ≡ false → (list_any q xs ≡ false → filter (λ y. not (q y)) xs ≡ xs) →
      filter (λ y. not (q y)) (x ∷ xs) ≡ x ∷ xs
  all_at x xs true e k h = let passes : true ≡ false = rw e at k in cc
  all_at x xs false e k h = rw e (ap (λ ys. x ∷ ys) (h (rw e at k)))

  pub filter_all : (xs : List X) → list_any q xs ≡ false → filter (λ x. not (q x)) xs ≡ xs
  filter_all [] k = refl
  filter_all (x ∷ xs) k = all_at x xs (q x) refl k (filter_all xs)
