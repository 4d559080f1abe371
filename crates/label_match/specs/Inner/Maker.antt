-- What a maker that refuses listed calls is seen as.
use Rattle.std.specs.Prelude.{ℕ, List}

-- the number of calls so far, the calls that are refused, counted from 1, and the refusals
pub record ListedMaker : Type 0 where
  pub calls : ℕ
  pub refuses : List ℕ
  pub refusals : ℕ
