-- What a version keeps beside its bundles: how many they are, and how many items they have together.
use Rattle.std.specs.Prelude.{◌≡◌, Option, Some, None}
use Rattle.bundle_state.specs.Bundle.{item_count}
use Rattle.bundle_index.specs.Index.{IndexParts}
use Rattle.edit_rules.specs.Database.{Counts, counts_of}
use Rattle.version_tree.specs.Version.{VersionParts, bundles_of}
use Rattle.version_tree.specs.Inner.Version.{KeepsVersionRules}

-- the version keeps the rules, and its bundles and items are counted
pub record IsKept (version : VersionParts) (counts : Counts) : Type 0 where
  pub rules : KeepsVersionRules version
  pub count : counts ≡ counts_of (bundles_of version.bundles)

-- the counts of the one bundle, if there is one
abbrev pub counts_in : Option IndexParts → Counts
counts_in None = record { bundles = 0; items = 0 }
counts_in (Some x) = record { bundles = 1; items = item_count x.bundle.levels }
