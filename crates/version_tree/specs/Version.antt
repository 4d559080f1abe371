-- A version of the database as plain data, and the versions that come next.
use Rattle.std.specs.Prelude.{◌-◌, ℕ, List, map}
use Rattle.db_config.specs.declared.parts.ConfigParts.{ConfigParts}
use Rattle.bundle_state.specs.Bundle.{BundleParts}
use Rattle.bundle_index.specs.Index.{IndexParts}
use Rattle.edit_rules.specs.Database.{DatabaseParts}

-- a configuration, the indexed bundles in the order of their keys, and the number of edits
pub record VersionParts : Type 0 where
  pub config : ConfigParts
  pub bundles : List IndexParts
  pub number : ℕ

-- the bundles without their columns
abbrev pub bundles_of : List IndexParts → List BundleParts
bundles_of list = map (λ x. x.bundle) list

-- the database that a version shows
abbrev pub state_of : VersionParts → DatabaseParts
state_of version = record { config = version.config; bundles = bundles_of version.bundles }
