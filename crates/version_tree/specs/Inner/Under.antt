-- Bundles that are made to fit a configuration with more parts.
use Rattle.std.specs.Prelude.{List, map}
use Rattle.db_config.specs.declared.parts.ConfigParts.{ConfigParts}
use Rattle.bundle_state.specs.Bundle.{BundleParts}
use Rattle.bundle_state.specs.Fitted.{CanFit, fitted}
use Rattle.bundle_index.specs.Index.{IndexParts}
use Rattle.version_tree.specs.Version.{bundles_of}
use Rattle.version_tree.specs.Inner.Pages.{Each}

-- each of these bundles can be made to fit a configuration
abbrev pub CanFitAll : ConfigParts → List IndexParts → Type 0
CanFitAll config list = Each (λ x. CanFit config x.bundle) list

-- these bundles, made to fit a configuration, in the words of plain bundles
abbrev pub fitted_of : ConfigParts → List IndexParts → List BundleParts
fitted_of config list = map (fitted config) (bundles_of list)
