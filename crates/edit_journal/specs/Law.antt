-- What the list of bodies of a store means: it is read where it was written, and nowhere else.
use Rattle.std.specs.Prelude.{◌≡◌, ◌≢◌, ◌⊎◌, ℕ, ◌<◌, ◌≤◌, List, [], ◌∷◌, ◌++◌, length, get_or, take, false, Ok, Err}
use Rattle.edit_journal.specs.declared.body.Body.{Body}
use Rattle.edit_journal.specs.Store.{limit, head, size_of, is_whole, bodies, start, placed, AreSized, StandsFor}

-- each number is a byte
abbrev pub AreBytes : List ℕ → Type 0
AreBytes c = (i : ℕ) → get_or c i 0 < 256

-- a list that was written and ends at a closed gate is read back, whatever stands behind that gate
abbrev pub WrittenIsRead : Type 0
WrittenIsRead =
    (texts : List (List ℕ)) (gate : ℕ) (rest : List ℕ) → AreSized texts → gate ≢ 1
    → length (start texts ++ gate ∷ rest) ≤ limit → StandsFor texts (start texts ++ gate ∷ rest)

-- bytes that were written as these bodies and end at a closed gate
pub record WasWritten (c : List ℕ) (found : List Body) : Type 0 where
  pub texts : List (List ℕ)
  pub gate : ℕ
  pub rest : List ℕ
  pub whole : c ≡ start texts ++ gate ∷ rest
  pub shut : gate ≢ 1
  pub places : found ≡ placed 8 texts

-- a list that is read was written so, or the store has at most nine bytes
abbrev pub ReadWasWritten : Type 0
ReadWasWritten =
    (c : List ℕ) (found : List Body) → AreBytes c → bodies c ≡ Ok found
    → ((length c ≤ 9) × (found ≡ [])) ⊎ WasWritten c found

-- what cannot stand at the place of a gate: no byte, or an open gate with a length that is cut, is
-- 0 or passes the end
abbrev pub IsBroken : List ℕ → Type 0
IsBroken [] = Unit {0}
IsBroken (gate ∷ a ∷ b ∷ c ∷ d ∷ rest) = (gate ≡ 1) × (is_whole (size_of a b c d) rest ≡ false)
IsBroken (gate ∷ rest) = gate ≡ 1

-- bytes that were written as some bodies up to a place, where they are broken
pub record IsBrokenAt (c : List ℕ) (at : ℕ) : Type 0 where
  pub texts : List (List ℕ)
  pub rest : List ℕ
  pub whole : c ≡ start texts ++ rest
  pub place : at ≡ length (start texts)
  pub broken : IsBroken rest

-- Damage has its place: the limit, where the store is longer; 0, where more than nine bytes do not
-- begin with the head; or the place where the list breaks.
abbrev pub DamageHasPlace : Type 0
DamageHasPlace =
    (c : List ℕ) (at : ℕ) → AreBytes c → bodies c ≡ Err at
    → ((limit < length c) × (at ≡ limit)) ⊎ ((9 < length c) × (take 8 c ≢ head) × (at ≡ 0))
    ⊎ IsBrokenAt c at
