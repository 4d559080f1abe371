-- Words of contracts and loops beside `specs/Forms.antt`; no promise of the program rests on them.
use Rattle.std.specs.Prelude.{ℕ, suc, ◌<◌, ◌≤◌, List, length, take}
use Rattle.byte_forms.specs.Forms.{Form, Begins}

-- the bytes stop being the beginning of a code at this place, or at their end
abbrev pub StopsAt : {A : Type 0} → Form A → List ℕ → ℕ → Type 0
StopsAt f bytes at =
    (at ≤ length bytes) × Begins f (take at bytes) × (at < length bytes → Begins f (take (suc at) bytes) → ⊥)
