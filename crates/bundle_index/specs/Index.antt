-- An indexed bundle as plain data, and what is asked of the items of its levels.
use Rattle.std.specs.Prelude.{ℕ, List}
use Rattle.bundle_state.specs.Bundle.{BundleParts}

-- a bundle, and the list of its distinct labels
pub record IndexParts : Type 0 where
  pub bundle : BundleParts
  pub labels : List (List ℕ)
