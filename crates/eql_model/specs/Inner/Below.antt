-- The segments below a result, and what a row needs of them.
use Rattle.std.specs.Prelude.{◌≡◌, ◌<◌, ℕ, length}
use Rattle.bundle_state.specs.Bundle.{BundleParts}
use Rattle.hier_closure.specs.Dominance.{closure_of}
use Rattle.eql_model.specs.declared.times.Below.{Below}

-- the rows are those of dominance between a level and the time level
pub record IsBelow (b : BundleParts) (level : ℕ) (below : Below) : Type 0 where
  pub within : below.time < length b.levels
  pub rows : below.rows.now ≡ closure_of b below.time level
