-- A bundle that was dropped and serves again.
use Rattle.std.proofs.Common.{◌≡◌, ℕ, List, slice_get, Some, Ok, subst}
use Rattle.db_config.specs.declared.parts.ConfigParts.{ConfigParts}
use Rattle.bundle_index.specs.Index.{IndexParts}
use Rattle.edit_rules.specs.declared.acts.Act.{Act}
use Rattle.version_steps.specs.Inner.Drafts.{IsAddedBy}

-- what is said of the bundle at a place is said of any that stands there
pub added_at : (config : ConfigParts) (act : Act) (bundles : List IndexParts) (place : ℕ) (own : IndexParts) → slice_get bundles place ≡ Some own → IsAddedBy config act (Some (Ok own)) →
    (x : IndexParts) → slice_get bundles place ≡ Some x → IsAddedBy config act (Some (Ok x))
added_at config act bundles place own here is x at =
    let same : own ≡ x = cc in
    subst (λ (y : IndexParts). IsAddedBy config act (Some (Ok y))) same is
