-- Words of contracts and loops beside `specs/Version.antt`; no promise of the program rests on them.
use Rattle.std.specs.Prelude.{◌≡◌, ◌≤◌, ◌+◌, ◌-◌, ◌^◌, ℕ, Bool, not, min, List, [], ◌∷◌, length, map, IsTrue, Option, All, if◌then◌else◌}
use Rattle.std.specs.List.{filter, find}
use Rattle.emu_names.specs.declared.limits.TheConstants.{BUNDLES}
use Rattle.emu_names.specs.declared.names.BundleKey.{BundleKey}
use Rattle.db_config.specs.declared.parts.ConfigParts.{ConfigParts}
use Rattle.bundle_state.specs.Bundle.{BundleParts}
use Rattle.bundle_state.specs.Fitted.{fitted}
use Rattle.bundle_index.specs.Index.{IndexParts}
use Rattle.edit_rules.specs.Database.{DatabaseParts, with_bundles, same_key, is_before, put_for, are_keys_rising, IsBundleOf}
use Rattle.version_tree.specs.Version.{VersionParts, bundles_of, state_of}

-- the database of a version with this bundle, or none, in the place of that of the key
abbrev pub state_put : BundleKey → Option BundleParts → VersionParts → DatabaseParts
state_put key next version =
    with_bundles (state_of version) (put_for key next (bundles_of version.bundles))

-- whether an indexed bundle has the key
abbrev pub has_key : BundleKey → IndexParts → Bool
has_key key x = same_key x.bundle.key key

-- the indexed bundle of a key
abbrev pub indexed_with : BundleKey → List IndexParts → Option IndexParts
indexed_with key list = find (has_key key) list

-- the indexed bundles but that of a key
abbrev pub others : BundleKey → List IndexParts → List IndexParts
others key list = filter (λ x. not (has_key key x)) list

-- an indexed bundle at its place in the order of keys
abbrev pub placed : IndexParts → List IndexParts → List IndexParts
placed new [] = new ∷ []
placed new (x ∷ xs) =
    if is_before new.bundle.key x.bundle.key then new ∷ x ∷ xs else x ∷ placed new xs

-- the indexed bundles with this one in the place of that of its key
abbrev pub put_indexed : IndexParts → List IndexParts → List IndexParts
put_indexed new list = placed new (others new.bundle.key list)

-- the version of a configuration without bundles, to which no edit led
abbrev pub first_version : ConfigParts → VersionParts
first_version config = record { config = config; bundles = []; number = 0 }

-- one edit more; the number stands still at 2^64 - 1
abbrev pub next_number : ℕ → ℕ
next_number number = min (number + 1) (2 ^ 64 - 1)

-- the next version, with this indexed bundle in the place of that of its key
abbrev pub version_with : IndexParts → VersionParts → VersionParts
version_with new version = record {
  config = version.config;
  bundles = put_indexed new version.bundles;
  number = next_number version.number;
}

-- the next version, without the indexed bundle of a key
abbrev pub version_without : BundleKey → VersionParts → VersionParts
version_without key version = record {
  config = version.config;
  bundles = others key version.bundles;
  number = next_number version.number;
}

-- the next version under a configuration that begins with its own: each bundle is made to fit it
pub record IsUnder (wider : ConfigParts) (old next : VersionParts) : Type 0 where
  pub config : next.config ≡ wider
  pub bundles : bundles_of next.bundles ≡ map (fitted wider) (bundles_of old.bundles)
  pub number : next.number ≡ next_number old.number

-- a version keeps the rules: there are at most 10,000 bundles, in order of their keys, each of them valid
-- and of the configuration
pub record KeepsVersionRules (version : VersionParts) : Type 0 where
  pub few : length version.bundles ≤ BUNDLES
  pub rising : IsTrue (are_keys_rising (bundles_of version.bundles))
  pub bundles : All (IsBundleOf version.config) (bundles_of version.bundles)
