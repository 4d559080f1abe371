-- Labels that are numbered by their places in a list, and columns of such numbers.
use Rattle.std.specs.Prelude.{◌≡◌, ℕ, ◌<◌, ◌^◌, List, length, map, Some}
use Rattle.std.specs.List.{slice_get}

-- the labels are distinct, and few enough that each place is a number of 32 bits
pub record AreNumbered (labels : List (List ℕ)) : Type 0 where
  pub apart : (i j : ℕ) (l : List ℕ) →
      slice_get labels i ≡ Some l → slice_get labels j ≡ Some l → i ≡ j
  pub few : length labels < 2 ^ 32

-- each label that stood in the list stands at the same place
pub record HasGrown (old new : List (List ℕ)) : Type 0 where
  pub kept : (i : ℕ) (l : List ℕ) → slice_get old i ≡ Some l → slice_get new i ≡ Some l

-- the numbers of the column are the places of these labels, one after another
abbrev pub IsColumnOf : List (List ℕ) → List ℕ → List (List ℕ) → Type 0
IsColumnOf numbered column labels = map (slice_get numbered) column ≡ map (λ l. Some l) labels
