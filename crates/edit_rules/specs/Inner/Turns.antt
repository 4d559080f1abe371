-- The counts beside a bundle, and the edits of one that is there and stays.
use Rattle.std.specs.Prelude.{◌≤◌, ℕ, suc, ◌-◌, List, [], ◌∷◌, Option, Some, None, Result, Ok}
use Rattle.emu_names.specs.declared.limits.TheConstants.{ALL_ITEMS, BUNDLES}
use Rattle.emu_names.specs.Steps.{onward}
use Rattle.db_config.specs.declared.parts.ConfigParts.{ConfigParts}
use Rattle.bundle_state.specs.Bundle.{BundleParts, item_count}
use Rattle.bundle_edits.specs.declared.bundle_change.Counts.{Counts}
use Rattle.bundle_edits.specs.declared.edit.Edit.{Edit}
use Rattle.bundle_edits.specs.Changes.{bundle_changed}
use Rattle.edit_rules.specs.declared.acts.Breach.{Breach}
use Rattle.edit_rules.specs.Effects.{at_place}
use Rattle.edit_rules.specs.Turns.{with_own}

-- the counts of all others
abbrev pub beside : Counts → Option BundleParts → Counts
beside counts None = counts
beside counts (Some b) = record { bundles = counts.bundles - 1; items = counts.items - item_count b.levels }

-- the bundle is among those that are counted
pub record HasOwn (counts : Counts) (b : BundleParts) : Type 0 where
  pub bundles : 1 ≤ counts.bundles
  pub few : counts.bundles ≤ BUNDLES
  pub items : item_count b.levels ≤ counts.items
  pub few_items : counts.items ≤ ALL_ITEMS

-- the bundle, if there is one, is among those that are counted
abbrev pub IsCounted : Counts → Option BundleParts → Type 0
IsCounted counts None = Unit {0}
IsCounted counts (Some b) = HasOwn counts b

-- what edits make one after another of a bundle that is there and stays, beside all others
abbrev pub own_in_turn : ConfigParts → Counts → ℕ → BundleParts → List Edit → Result BundleParts Breach
own_in_turn config others place b [] = Ok b
own_in_turn config others place b (e ∷ es) =
    onward (at_place place (bundle_changed config (with_own others (Some b)) e b))
    (λ next. own_in_turn config others (suc place) next es)
