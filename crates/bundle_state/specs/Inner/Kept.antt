-- What a bundle keeps beside its parts: for each id the level of its item, where there are many.
use Rattle.bundle_state.specs.declared.places.Places.{Places}
use Rattle.bundle_state.specs.Bundle.{BundleParts, level_of_id}
use Rattle.bundle_state.specs.Inner.Placed.{ArePlaced}
use Rattle.bundle_state.specs.Valid.{KeepsBundleRules}

-- the rules of bundles, with the kept levels
pub record IsKept (bundle : BundleParts) (places : Places) : Type 0 where
  pub rules : KeepsBundleRules bundle
  pub placed : ArePlaced (level_of_id bundle.levels) places
