-- Members of lists.
use Rattle.std.proofs.Common.{◌≡◌, zero, suc, List, [], ◌∷◌, map, Contains, refl, ap, subst, arith}
use Rattle.std.specs.List.{AllByRecursion}

pub none_here : {A R : Type 0} (x : A) → Contains [] x → R
none_here x (k, lt, is) = absurd (omega arith)

pub here : {A : Type 0} (x : A) (xs : List A) → Contains (x ∷ xs) x
here x xs = (0, omega arith, refl)

pub there : {A : Type 0} (y : A) (xs : List A) (x : A) → Contains xs x → Contains (y ∷ xs) x
there y xs x is = let lt = is.1 in (suc is.0, omega arith, is.2)

-- the first element, where it is the one
pub first : {A : Type 0} (y : A) (xs : List A) (x : A) → y ≡ x → Contains (y ∷ xs) x
first y xs x same = subst (λ z. Contains (y ∷ xs) z) same (here y xs)

-- a member is the first element, or stands behind it
pub parted : {A R : Type 0} (y : A) (xs : List A) (x : A) → Contains (y ∷ xs) x → (y ≡ x → R) → (Contains xs x → R) → R
parted y xs x (zero, lt, is) one more = one is
parted y xs x (suc k, lt, is) one more = more (k, omega arith, is)

pub in_map : {A B : Type 0} (f : A → B) (xs : List A) (x : A) → Contains xs x → Contains (map f xs) (f x)
in_map f [] x at = none_here x at
in_map f (y ∷ xs) x at =
    parted y xs x at
    (λ same. first (f y) (map f xs) (f x) (ap f same))
    (λ behind. there (f y) (map f xs) (f x) (in_map f xs x behind))

-- a member of a list of which all have a property
pub all_at : {A : Type 0} (P : A → Type 0) (xs : List A) (x : A) → AllByRecursion P xs → Contains xs x → P x
all_at P [] x all at = none_here x at
all_at P (y ∷ xs) x all at = parted y xs x at (λ same. subst P same all.0) (λ behind. all_at P xs x all.1 behind)
