-- A database as plain data: its configuration, and its bundles in the order of their keys.
use Rattle.std.specs.Prelude.{◌≤◌, ℕ, Bool, true, ◌&&◌, not, List, [], ◌∷◌, length, sum_by, IsTrue, Option, Some, None, All, if◌then◌else◌}
use Rattle.std.specs.List.{filter, find}
use Rattle.std.specs.Ordering.{is_lt}
use Rattle.emu_names.specs.declared.limits.TheConstants.{ALL_ITEMS, BUNDLES}
use Rattle.emu_names.specs.declared.names.BundleKey.{BundleKey}
use Rattle.emu_names.specs.Order.{key_cmp}
use Rattle.db_config.specs.declared.parts.ConfigParts.{ConfigParts}
use Rattle.emu_names.specs.Texts.{same_text}
use Rattle.db_config.specs.Valid.{is_valid}
use Rattle.bundle_state.specs.Bundle.{BundleParts, item_count}
use Rattle.bundle_state.specs.Built.{FitsConfig}
use Rattle.bundle_state.specs.Valid.{KeepsBundleRules}
pub use Rattle.bundle_edits.specs.declared.bundle_change.Counts.{Counts}

-- a configuration, and bundles in the order of their keys
pub record DatabaseParts : Type 0 where
  pub config : ConfigParts
  pub bundles : List BundleParts

-- the database of a configuration without bundles
abbrev pub empty_database : ConfigParts → DatabaseParts
empty_database config = record { config = config; bundles = [] }

-- the database with other bundles
abbrev pub with_bundles : DatabaseParts → List BundleParts → DatabaseParts
with_bundles database bundles = record { config = database.config; bundles = bundles }

-- two keys are the same two names
abbrev pub same_key : BundleKey → BundleKey → Bool
same_key a b = same_text a.session b.session && same_text a.bundle b.bundle

-- one key stands before another: by session, and then by bundle
abbrev pub is_before : BundleKey → BundleKey → Bool
is_before a b = is_lt (key_cmp a b)

-- the bundle of a key
abbrev pub bundle_with : BundleKey → List BundleParts → Option BundleParts
bundle_with key bundles = find (λ b. same_key b.key key) bundles

-- the bundles but that of a key
abbrev pub without : BundleKey → List BundleParts → List BundleParts
without key bundles = filter (λ b. not (same_key b.key key)) bundles

-- a bundle at its place in the order of keys
abbrev pub put_in_order : BundleParts → List BundleParts → List BundleParts
put_in_order new [] = new ∷ []
put_in_order new (b ∷ bs) =
    if is_before new.key b.key then new ∷ b ∷ bs else b ∷ put_in_order new bs

-- the bundles with this one, or none, in the place of that of the key
abbrev pub put_for : BundleKey → Option BundleParts → List BundleParts → List BundleParts
put_for key None bundles = without key bundles
put_for key (Some new) bundles = put_in_order new (without key bundles)

-- how many items the bundles have together
abbrev pub all_items : List BundleParts → ℕ
all_items bundles = sum_by (λ b. item_count b.levels) bundles

-- how many bundles there are, and how many items together
abbrev pub counts_of : List BundleParts → Counts
counts_of bundles = record { bundles = length bundles; items = all_items bundles }

-- the keys rise strictly
abbrev pub are_keys_rising : List BundleParts → Bool
are_keys_rising [] = true
are_keys_rising (a ∷ []) = true
are_keys_rising (a ∷ b ∷ bundles) = is_before a.key b.key && are_keys_rising (b ∷ bundles)

-- a bundle keeps the rules of bundles, and has the levels and link definitions of a configuration
pub record IsBundleOf (config : ConfigParts) (bundle : BundleParts) : Type 0 where
  pub rules : KeepsBundleRules bundle
  pub fits : FitsConfig config bundle

-- a database keeps the rules: its configuration is valid; there are at most 10,000 bundles, in order of
-- their keys, each of them valid and of the configuration; and they have at most 2,000,000 items
pub record KeepsDatabaseRules (database : DatabaseParts) : Type 0 where
  pub config : IsTrue (is_valid database.config)
  pub few : length database.bundles ≤ BUNDLES
  pub rising : IsTrue (are_keys_rising database.bundles)
  pub bundles : All (IsBundleOf database.config) database.bundles
  pub few_items : all_items database.bundles ≤ ALL_ITEMS
