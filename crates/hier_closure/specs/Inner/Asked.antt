-- Rows of which only some are asked for.
use Rattle.std.specs.Prelude.{◌≡◌, ℕ, ◌<◌, Bool, true, false, List, [], get_or, length}

-- there are as many rows, as long ones, and where a bit says that a row is asked for, it is the same
pub record AgreeWhere (asked : List Bool) (rows made : List (List Bool)) : Type 0 where
  pub count : length made ≡ length rows
  pub wide : (k : ℕ) → k < length made → length (get_or made k []) ≡ length (get_or rows k [])
  pub each : (k : ℕ) → get_or asked k false ≡ true → get_or made k [] ≡ get_or rows k []
