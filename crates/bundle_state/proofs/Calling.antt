-- How callers meet the conditions of the calls that change a bundle, where it fits a configuration.
use Rattle.std.proofs.Common.{◌≡◌, ℕ, ◌<◌, length, true, List, Option, Some, None, Result, Ok, Err, IfOk, IfSome, IsTrue, OnErr, OnOk, refl, sym, ◌∙◌, ap, subst, option_map}
use Rattle.std.specs.List.{slice_get}
use Rattle.std.specs.Option.{option_and_then}
use Rattle.std.proofs.lemmas.Option.{slice_get-map, slice_get_within}
use Rattle.emu_names.specs.declared.kinds.LevelKind.{LevelKind}
use Rattle.emu_names.specs.declared.names.BundleKey.{BundleKey}
use Rattle.emu_names.specs.declared.rules.Broken.{Broken}
use Rattle.emu_names.specs.declared.rules.Fault.{Fault}
use Rattle.emu_names.specs.Inner.Gives.{GivesOrBroken}
use Rattle.level_items.specs.declared.annot.Annot.{Annot}
use Rattle.level_items.specs.Levels.{Level, are_labels_for}
use Rattle.db_config.specs.declared.parts.LevelDef.{LevelDef}
use Rattle.db_config.specs.declared.parts.ConfigParts.{ConfigParts}
use Rattle.bundle_state.specs.Bundle.{BundleParts, place_of}
use Rattle.bundle_state.specs.Built.{built, form_of, form_asked, FitsConfig}
use Rattle.bundle_state.specs.Inner.Changed.{attributes_with}
use Rattle.bundle_state.specs.ChangedLaws.{KeepsForm}
use Rattle.bundle_state.proofs.BuiltKept.{built_fits}

-- the level of a bundle that a level of the configuration stands for
pub record IsLevelOf (bundle : BundleParts) (number : ℕ) (def : LevelDef) : Type 0 where
  pub level : Level
  pub there : slice_get bundle.levels number ≡ Some level
  pub kind : level.kind ≡ def.kind
  pub attributes : level.attributes ≡ length def.attributes

pub level_of_def : (config : ConfigParts) (bundle : BundleParts) (number : ℕ) (def : LevelDef) → FitsConfig config bundle → slice_get config.levels number ≡ Some def → IsLevelOf bundle number def
level_of_def config bundle number def fits there = by (slice_get bundle.levels number) refl same
  where
    same : option_map form_of (slice_get bundle.levels number) ≡ Some (form_asked def)
    same =
        sym (slice_get-map form_of bundle.levels number) ∙ ap (λ forms. slice_get forms number) fits.levels
        ∙ slice_get-map form_asked config.levels number ∙ ap (option_map form_asked) there

    forms : (l : Level) → Some (form_of l) ≡ Some (form_asked def) → form_of l ≡ form_asked def
    forms l e = cc

    by : (o : Option Level) → slice_get bundle.levels number ≡ o → option_map form_of o ≡ Some (form_asked def) → IsLevelOf bundle number def
    by None is e = absurd cc
    by (Some l) is e = record { level = l; there = is; kind = ap (λ (f : LevelKind × ℕ). f.0) (forms l e); attributes = ap (λ (f : LevelKind × ℕ). f.1) (forms l e) }

-- `level` of `add_item`
pub level_within : (config : ConfigParts) (bundle : BundleParts) (number : ℕ) (def : LevelDef) → FitsConfig config bundle → slice_get config.levels number ≡ Some def → number < length bundle.levels
level_within config bundle number def fits there =
    let own = level_of_def config bundle number def fits there in
    slice_get_within bundle.levels number own.level own.there

-- `labels` of `add_item`
pub labels_within : (config : ConfigParts) (bundle : BundleParts) (number : ℕ) (def : LevelDef) (labels : List (List ℕ)) → FitsConfig config bundle → slice_get config.levels number ≡ Some def →
    are_labels_for (length def.attributes) labels ≡ true → IfSome (slice_get bundle.levels number) (λ l. IsTrue (are_labels_for l.attributes labels))
labels_within config bundle number def labels fits there whole =
    let own = level_of_def config bundle number def fits there in
    subst (λ (o : Option Level). IfSome o (λ l. IsTrue (are_labels_for l.attributes labels))) (sym own.there)
    (ap (λ n. are_labels_for n labels) own.attributes ∙ whole)

-- `attribute` of `set_label`
pub attribute_within : (config : ConfigParts) (bundle : BundleParts) (id level at attribute : ℕ) (def : LevelDef) → FitsConfig config bundle → place_of bundle.levels id ≡ Some (level, at) →
    slice_get config.levels level ≡ Some def → attribute < length def.attributes → IfSome (attributes_with id bundle.levels) (λ count. attribute < count)
attribute_within config bundle id level at attribute def fits placed there low =
    let own = level_of_def config bundle level def fits there in
    let found : attributes_with id bundle.levels ≡ Some own.level.attributes =
    ap (λ (o : Option (ℕ × ℕ)). option_map (λ (l : Level). l.attributes) (option_and_then (λ place. slice_get bundle.levels place.0) o)) placed
    ∙ ap (λ (o : Option Level). option_map (λ (l : Level). l.attributes) o) own.there in
    subst (λ (o : Option ℕ). IfSome o (λ count. attribute < count)) (sym found) (subst (λ n. attribute < n) (sym own.attributes) low)

-- an item with no place has no label to set
pub attribute_of_none : (id attribute : ℕ) (levels : List Level) → place_of levels id ≡ None → IfSome (attributes_with id levels) (λ count. attribute < count)
attribute_of_none id attribute levels none =
    subst (λ (o : Option (ℕ × ℕ)). IfSome (option_map (λ (l : Level). l.attributes) (option_and_then (λ place. slice_get levels place.0) o)) (λ count. attribute < count)) (sym none) tt

-- a bundle behind a call that changes it
pub fits_after : {T : Type 0} (change : BundleParts → Result BundleParts Broken) → KeepsForm change → (config : ConfigParts) (before after : BundleParts) (r : Result T Fault) →
    FitsConfig config before → OnOk r (change before ≡ Ok after) → OnErr r (after ≡ before) → FitsConfig config after
fits_after change keeps config before after (Ok x) fits ok same = keeps config before after fits ok
fits_after change keeps config before after (Err e) fits ok same = subst (FitsConfig config) (sym same) fits

-- a bundle that is built
pub fits_built : (config : ConfigParts) (key : BundleKey) (annot : Annot) (made : Result BundleParts Fault) → GivesOrBroken made (built config key annot) → IfOk made (FitsConfig config)
fits_built config key annot (Ok bundle) gives = built_fits config key annot bundle gives
fits_built config key annot (Err e) gives = tt
