-- Edits one after another of one bundle, and the counts on the way.
use Rattle.std.specs.Prelude.{ℕ, suc, ◌+◌, List, [], ◌∷◌, Option, Some, None, Result, Ok}
use Rattle.emu_names.specs.Steps.{onward}
use Rattle.db_config.specs.declared.parts.ConfigParts.{ConfigParts}
use Rattle.bundle_state.specs.Bundle.{BundleParts, item_count}
use Rattle.bundle_edits.specs.declared.bundle_change.Counts.{Counts}
use Rattle.bundle_edits.specs.declared.edit.Edit.{Edit}
use Rattle.bundle_edits.specs.Changes.{changed}
use Rattle.edit_rules.specs.declared.acts.Breach.{Breach}
use Rattle.edit_rules.specs.Effects.{at_place}

-- the counts of all bundles, of those of all others and this one
abbrev pub with_own : Counts → Option BundleParts → Counts
with_own others None = others
with_own others (Some b) = record { bundles = suc others.bundles; items = others.items + item_count b.levels }

-- what edits make one after another of the bundle of their key, which may be missing, beside all others
abbrev pub changed_in_turn : ConfigParts → Counts → ℕ → Option BundleParts → List Edit → Result (Option BundleParts) Breach
changed_in_turn config others place old [] = Ok old
changed_in_turn config others place old (e ∷ es) =
    onward (at_place place (changed config (with_own others old) old e))
    (λ next. changed_in_turn config others (suc place) next es)
