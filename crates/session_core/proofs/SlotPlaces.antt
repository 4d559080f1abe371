-- The places of the sessions as the elements of a list.
use Rattle.std.proofs.Common.{◌≡◌, ◌<◌, ℕ, zero, suc, List, [], ◌∷◌, length, map, get_or, set, Option, None, refl, ap, sym, arith}
use Rattle.std.specs.Option.{option_map}
use Rattle.session_core.specs.Steps.{slot, put_slot}

-- a place is an element of the list
pub slot_get_or : {A : Type 0} → (xs : List (Option A)) (s : ℕ) (v : Option A) → s < length xs → slot xs s ≡ get_or xs s v
slot_get_or [] s v h = absurd (omega arith)
slot_get_or (x ∷ xs) zero v h = refl
slot_get_or (x ∷ xs) (suc s) v h = slot_get_or xs s v (omega arith)

pub put_slot_set : {A : Type 0} → (xs : List (Option A)) (s : ℕ) (v : Option A) → put_slot xs s v ≡ set xs s v
put_slot_set [] s v = refl
put_slot_set (x ∷ xs) zero v = refl
put_slot_set (x ∷ xs) (suc s) v = ap (λ ys. x ∷ ys) (put_slot_set xs s v)

-- nothing put where nothing stands changes nothing
pub put_slot_none : {A : Type 0} → (xs : List (Option A)) (s : ℕ) → slot xs s ≡ None → put_slot xs s None ≡ xs
put_slot_none [] s e = refl
put_slot_none (x ∷ xs) zero e = ap (λ y. y ∷ xs) (sym e)
put_slot_none (x ∷ xs) (suc s) e = ap (λ ys. x ∷ ys) (put_slot_none xs s e)

pub length_put_slot : {A : Type 0} → (xs : List (Option A)) (s : ℕ) (v : Option A) → length (put_slot xs s v) ≡ length xs
length_put_slot [] s v = refl
length_put_slot (x ∷ xs) zero v = refl
length_put_slot (x ∷ xs) (suc s) v = ap suc (length_put_slot xs s v)

-- what was put stands there, where there is a place
pub slot_put : {A : Type 0} → (P : Option A → Type 0) (xs : List (Option A)) (s : ℕ) (v : Option A) → P v → ((k : ℕ) → P (slot xs k)) → (k : ℕ) → P (slot (put_slot xs s v) k)
slot_put P [] s v new old k = old k
slot_put P (x ∷ xs) zero v new old zero = new
slot_put P (x ∷ xs) zero v new old (suc k) = old (suc k)
slot_put P (x ∷ xs) (suc s) v new old zero = old zero
slot_put P (x ∷ xs) (suc s) v new old (suc k) = slot_put P xs s v new (λ j. old (suc j)) k

-- a function on what stands at each place
pub slot_map : {A B : Type 0} → (f : A → B) (xs : List (Option A)) (s : ℕ) → slot (map (option_map f) xs) s ≡ option_map f (slot xs s)
slot_map f [] s = refl
slot_map f (x ∷ xs) zero = refl
slot_map f (x ∷ xs) (suc s) = slot_map f xs s

pub put_slot_map : {A B : Type 0} → (f : A → B) (xs : List (Option A)) (s : ℕ) (v : Option A) → map (option_map f) (put_slot xs s v) ≡ put_slot (map (option_map f) xs) s (option_map f v)
put_slot_map f [] s v = refl
put_slot_map f (x ∷ xs) zero v = refl
put_slot_map f (x ∷ xs) (suc s) v = ap (λ ys. option_map f x ∷ ys) (put_slot_map f xs s v)
