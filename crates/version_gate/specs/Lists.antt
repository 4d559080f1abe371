-- Lists of versions with their numbers, and what contracts see of a pass, of a note and of a
-- publisher.
use Rattle.std.specs.Prelude.{◌≡◌, ℕ, suc, ◌+◌, ◌<◌, List, [], ◌∷◌, ◌++◌, length}
use Rattle.logbook.specs.Pages.{Book}
use Rattle.version_gate.specs.declared.entry.Entry.{Entry}

-- What a pass or a note has: its gate, and the published versions from the opening to the last one
-- that it has seen or learnt
pub record Front (T : Type 0) : Type 0 where
  pub gate : Book
  pub list : List (Entry T)

module _ {T : Type 0} where
  -- a version under its number
  abbrev pub entry : ℕ → T → Entry T
  entry number version = record { number = number; version = version }

  -- this gate, and these published versions
  abbrev pub front : Book → List (Entry T) → Front T
  front gate list = record { gate = gate; list = list }

  -- the numbers rise by one, and the first is n
  abbrev pub Rises : ℕ → List (Entry T) → Type 0
  Rises n [] = Unit {0}
  Rises n (e ∷ es) = (e.number ≡ n) × Rises (suc n) es

  -- there is an entry, the numbers rise by one, and the last is k
  abbrev pub Numbered : ℕ → List (Entry T) → Type 0
  Numbered k list = (n : ℕ) × Rises n list × (k + 1 ≡ n + length list) × (0 < length list)

  -- the last entry is e
  abbrev pub EndsIn : List (Entry T) → Entry T → Type 0
  EndsIn list e = (before : List (Entry T)) × (list ≡ before ++ e ∷ [])
