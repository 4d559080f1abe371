use Rattle.std.proofs.Common.{◌≡◌, ◌∙◌, ap, List}
use Rattle.level_items.specs.Levels.{Level}
use Rattle.db_config.specs.declared.parts.LevelDef.{LevelDef}
use Rattle.db_config.specs.declared.parts.ConfigParts.{ConfigParts}
use Rattle.bundle_state.specs.Bundle.{BundleParts}
use Rattle.bundle_state.specs.Fitted.{fitted_levels}
use Rattle.bundle_state.proofs.FittedKept.{fit_kept}
use Rattle.bundle_state.proofs.bundle.Bundle.fit.Goals as goal

pub invariant_of-result : goal.invariant_of-result
invariant_of-result c =
    let view = c.self.view_is in
    let config : ConfigParts = c.args.config.now in
    let old : BundleParts = c.args.self.now in
    let definitions_are : c.in_ok-new.field-0 ≡ config.links = c.in_ok-new.ensures ∙ c.in_ok-definitions.ensures ∙ ap (λ (p : ConfigParts). p.links) c.parts-parts.ensures.parts in
    let defs_are : c.as_slice.result.now ≡ config.levels = c.as_slice.ensures ∙ ap (λ (p : ConfigParts). p.levels) c.parts-parts.ensures.parts in
    let olds_are : c.as_slice-2.result.now ≡ old.levels = c.as_slice-2.ensures ∙ ap (λ (b : BundleParts). b.levels) view in
    let levels_are : _ ≡ fitted_levels config.levels old.levels =
    c.levels.view_is ∙ c.in_ok-levels.ensures ∙ ap (λ (ds : List LevelDef). fitted_levels ds c.as_slice-2.result.now) defs_are ∙ ap (λ (ls : List Level). fitted_levels config.levels ls) olds_are in
    fit_kept config old _ c.self.inside.places c.in_ok-copy-4.field-0 c.in_ok-copy.field-0 c.in_ok-copy-2.field-0 c.self.inside.rate _ c.in_ok-new.field-0 c.in_ok-copy-3.field-0
    view c.requires c.self.invariant
    (c.in_ok-copy.ensures ∙ ap (λ (b : BundleParts). b.key) view)
    (c.in_ok-copy-2.ensures ∙ ap (λ (b : BundleParts). b.annotates) view)
    (ap (λ (b : BundleParts). b.rate) view)
    levels_are definitions_are
    (c.in_ok-copy-3.ensures ∙ ap (λ (b : BundleParts). b.links) view)
    c.in_ok-copy-4.ensures
