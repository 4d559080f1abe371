-- What stands at a session's place after another thing was put there.
use Rattle.std.proofs.Common.{◌≡◌, ◌≢◌, ℕ, zero, suc, ◌<◌, List, [], ◌∷◌, length, replicate, Option, None, refl, ap, arith}
use Rattle.session_core.specs.Steps.{slot, put_slot}

pub slot_put : {A : Type 0} (xs : List (Option A)) (s : ℕ) (v : Option A) → s < length xs → slot (put_slot xs s v) s ≡ v
slot_put [] s v below = absurd (omega arith)
slot_put (x ∷ xs) zero v below = refl
slot_put (x ∷ xs) (suc s) v below = slot_put xs s v (omega arith)

pub slot_other : {A : Type 0} (xs : List (Option A)) (s k : ℕ) (v : Option A) → s ≢ k → slot (put_slot xs s v) k ≡ slot xs k
slot_other [] s k v ne = refl
slot_other (x ∷ xs) zero zero v ne = absurd (ne refl)
slot_other (x ∷ xs) zero (suc k) v ne = refl
slot_other (x ∷ xs) (suc s) zero v ne = refl
slot_other (x ∷ xs) (suc s) (suc k) v ne = slot_other xs s k v (λ same. ne (ap suc same))

pub put_length : {A : Type 0} (xs : List (Option A)) (s : ℕ) (v : Option A) → length (put_slot xs s v) ≡ length xs
put_length [] s v = refl
put_length (x ∷ xs) zero v = refl
put_length (x ∷ xs) (suc s) v = ap suc (put_length xs s v)

pub slot_none : {A : Type 0} (n s : ℕ) → slot (replicate {A = Option A} n None) s ≡ None
slot_none zero s = refl
slot_none (suc n) zero = refl
slot_none (suc n) (suc s) = slot_none n s
