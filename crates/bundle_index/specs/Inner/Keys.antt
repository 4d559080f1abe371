-- The keys of labels, which tell short labels apart.
use Rattle.std.specs.Prelude.{◌≡◌, ℕ, ◌<◌, ◌≤◌, ◌+◌, ◌*◌, ◌%◌, ⊤, Bool, true, false, List, [], ◌∷◌, length, get_or, Some}
use Rattle.std.specs.List.{AllZip, slice_get}

-- the bytes as digits to base 256, the first one lowest, with a 1 above the last
abbrev pub number_of : List ℕ → ℕ
number_of [] = 1
number_of (b ∷ bs) = b + 256 * number_of bs

-- each is a byte
abbrev pub AreBytes : List ℕ → Type 0
AreBytes [] = ⊤
AreBytes (b ∷ bs) = (b < 256) × AreBytes bs

-- the key of a label: the number of its bytes where it has at most 7, else 0
pub record IsKeyOf (label : List ℕ) (key : ℕ) : Type 0 where
  pub short : length label ≤ 7 → (key ≡ number_of label) × AreBytes label
  pub long : 7 < length label → key ≡ 0

-- the keys are those of these labels, one for each in order, or there is none
pub record AreKeysOf (labels : List (List ℕ)) (keys : List ℕ) : Type 0 where
  pub each : 0 < length keys → AllZip IsKeyOf labels keys

-- of sixty-three marks that of each key is set, at the rest of the key by 63
pub record AreMarksOf (keys : List ℕ) (marks : List Bool) : Type 0 where
  pub count : length marks ≡ 63
  pub each : (i k : ℕ) → slice_get keys i ≡ Some k → get_or marks (k % 63) false ≡ true
