-- The bundles of a database that keeps the rules.
use Rattle.std.proofs.Common.{◌≡◌, ℕ, zero, suc, List, [], ◌∷◌, Some, All, subst}
use Rattle.std.specs.List.{slice_get}
use Rattle.db_config.specs.declared.parts.ConfigParts.{ConfigParts}
use Rattle.bundle_state.specs.Bundle.{BundleParts}
use Rattle.std.proofs.lemmas.List.Elements.{All-head, All-tail}
use Rattle.edit_rules.specs.Database.{DatabaseParts, IsBundleOf, KeepsDatabaseRules}

some_same : {A : Type 0} (x y : A) → Some x ≡ Some y → x ≡ y
some_same x y e = cc

all_at : (config : ConfigParts) (bundles : List BundleParts) (k : ℕ) (b : BundleParts) → slice_get bundles k ≡ Some b → All (IsBundleOf config) bundles → IsBundleOf config b
all_at config [] k b at all = absurd cc
all_at config (x ∷ bundles) zero b at all = subst (IsBundleOf config) (some_same x b at) (All-head (IsBundleOf config) x bundles all)
all_at config (x ∷ bundles) (suc k) b at all = all_at config bundles k b at (All-tail (IsBundleOf config) x bundles all)

-- the bundle at a place keeps the rules and fits the configuration
pub bundle_at : (d : DatabaseParts) (k : ℕ) (b : BundleParts) → KeepsDatabaseRules d → slice_get d.bundles k ≡ Some b → IsBundleOf d.config b
bundle_at d k b keeps at = all_at d.config d.bundles k b at keeps.bundles
