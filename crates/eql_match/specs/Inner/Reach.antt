-- From which place to which one the rows of a stretch have bits.
use Rattle.std.specs.Prelude.{◌≡◌, ℕ, ◌≤◌, ◌<◌, ◌-◌, Bool, true, List}
use Rattle.std.specs.List.{list_any, range_with_len}
use Rattle.eql_tuples.specs.declared.tuple.Tuple.{Tuple}
use Rattle.eql_rows.specs.Inner.Flags.{flag_at}
use Rattle.eql_model.specs.Inner.Joins.{bit_at, is_under}

-- a place is among those from the first of two to before the second
abbrev pub IsWithin : ℕ × ℕ → ℕ → Type 0
IsWithin reach place = (reach.0 ≤ place) × (place < reach.1)

-- some places were added, among them all that the row has a bit of
pub record Widens (row : List Bool) (old new : ℕ × ℕ) : Type 0 where
  pub low : new.0 ≤ old.0
  pub high : old.1 ≤ new.1
  pub bits : (place : ℕ) → flag_at place row ≡ true → IsWithin new place

-- all places are among them that some row of the stretch has a bit of
pub record Reaches (rows : List (List Bool)) (upper : Tuple) (reach : ℕ × ℕ) : Type 0 where
  pub each : (place : ℕ) → is_under rows upper place ≡ true → IsWithin reach place

-- the same of the rows from one to before another
pub record ReachesTo (rows : List (List Bool)) (first row : ℕ) (reach : ℕ × ℕ) : Type 0 where
  pub each : (place : ℕ) → list_any (λ i. bit_at rows i place) (range_with_len first (row - first)) ≡ true →
      IsWithin reach place
