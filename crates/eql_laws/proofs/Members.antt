-- Members of lists, and tests of members.
use Rattle.std.proofs.Common.{◌≡◌, ℕ, zero, suc, ◌<◌, Bool, true, false, ◌||◌, ◌&&◌, List, [], ◌∷◌, map, length, Contains, refl, sym, ap, ◌∙◌, arith}
use Rattle.std.specs.List.{list_all, list_any}
use Rattle.std.proofs.lemmas.Bool.{and_parts, and_from}

-- ---- truth values

pub same_bool : (a b : Bool) → (a ≡ true → b ≡ true) → (b ≡ true → a ≡ true) → a ≡ b
same_bool true true there back = refl
same_bool true false there back = let no : false ≡ true = there refl in absurd cc
same_bool false true there back = let no : false ≡ true = back refl in absurd cc
same_bool false false there back = refl

or_right : (a b : Bool) → b ≡ true → (a || b) ≡ true
or_right true b is = refl
or_right false b is = is

-- ---- members

pub here : {A : Type 0} (x : A) (xs : List A) → Contains (x ∷ xs) x
here x xs = (0, omega arith, refl)

pub there : {A : Type 0} (y : A) (xs : List A) (x : A) → Contains xs x → Contains (y ∷ xs) x
there y xs x is = let lt = is.1 in (suc is.0, omega arith, is.2)

pub in_map : {A B : Type 0} (f : A → B) (xs : List A) (x : A) → Contains xs x → Contains (map f xs) (f x)
in_map f [] x (k, lt, is) = absurd (omega arith)
in_map f (y ∷ xs) x (zero, lt, is) = (0, omega arith, ap f is)
in_map f (y ∷ xs) x (suc k, lt, is) = there (f y) (map f xs) (f x) (in_map f xs x (k, omega arith, is))

-- ---- tests of all and of some member

pub all_at : {A : Type 0} (f : A → Bool) (xs : List A) (x : A) → list_all f xs ≡ true → Contains xs x → f x ≡ true
all_at f [] x all (k, lt, is) = absurd (omega arith)
all_at f (y ∷ xs) x all (zero, lt, is) = ap f (sym is) ∙ (and_parts (f y) (list_all f xs) all).0
all_at f (y ∷ xs) x all (suc k, lt, is) = all_at f xs x (and_parts (f y) (list_all f xs) all).1 (k, omega arith, is)

pub all_from : {A : Type 0} (f : A → Bool) (xs : List A) → ((x : A) → Contains xs x → f x ≡ true) → list_all f xs ≡ true
all_from f [] each = refl
all_from f (x ∷ xs) each =
    and_from (f x) (list_all f xs) (each x (here x xs)) (all_from f xs (λ y is. each y (there x xs y is)))

pub any_at : {A : Type 0} (f : A → Bool) (xs : List A) (x : A) → Contains xs x → f x ≡ true → list_any f xs ≡ true
any_at f [] x (k, lt, is) hit = absurd (omega arith)
any_at f (y ∷ xs) x (zero, lt, is) hit = ap (λ b. b || list_any f xs) (ap f is ∙ hit)
any_at f (y ∷ xs) x (suc k, lt, is) hit = or_right (f y) (list_any f xs) (any_at f xs x (k, omega arith, is) hit)

-- a member that passes a test
abbrev pub Hit : {A : Type 0} → (A → Bool) → List A → Type 0
Hit {A = A} f xs = (x : A) × Contains xs x × (f x ≡ true)

hit_by : {A : Type 0} (f : A → Bool) (b : Bool) (x : A) (xs : List A) → f x ≡ b → (b || list_any f xs) ≡ true →
    (list_any f xs ≡ true → Hit f xs) → Hit f (x ∷ xs)
hit_by f true x xs is any rest = (x, here x xs, is)
hit_by f false x xs is any rest = let at = rest any in (at.0, there x xs at.0 at.1, at.2)

pub any_hit : {A : Type 0} (f : A → Bool) (xs : List A) → list_any f xs ≡ true → Hit f xs
any_hit f [] any = absurd cc
any_hit f (x ∷ xs) any = hit_by f (f x) x xs refl any (any_hit f xs)

-- ---- lists with the same members

module _ {A : Type 0} (f : A → Bool) (xs ys : List A) (same : (x : A) → (Contains xs x → Contains ys x) × (Contains ys x → Contains xs x)) where
  pub same_all : list_all f xs ≡ list_all f ys
  same_all =
      same_bool (list_all f xs) (list_all f ys)
      (λ all. all_from f ys (λ y is. all_at f xs y all ((same y).1 is)))
      (λ all. all_from f xs (λ x is. all_at f ys x all ((same x).0 is)))

  pub same_any : list_any f xs ≡ list_any f ys
  same_any =
      same_bool (list_any f xs) (list_any f ys)
      (λ any. let hit = any_hit f xs any in any_at f ys hit.0 ((same hit.0).0 hit.1) hit.2)
      (λ any. let hit = any_hit f ys any in any_at f xs hit.0 ((same hit.0).1 hit.1) hit.2)
