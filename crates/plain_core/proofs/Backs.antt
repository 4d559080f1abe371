-- The bundle that an act changes, before an act that breaks no rule.
use Rattle.std.proofs.Common.{◌≡◌, ◌&&◌, true, List, [], ◌∷◌, Option, Ok, sym, ◌∙◌, ap, subst}
use Rattle.std.proofs.lemmas.Bool.{and_parts, false≢true}
use Rattle.std.specs.List.{list_all}
use Rattle.emu_names.specs.declared.names.BundleKey.{BundleKey}
use Rattle.bundle_state.specs.Bundle.{BundleParts}
use Rattle.bundle_edits.specs.declared.edit.Edit.{Edit}
use Rattle.bundle_edits.specs.Edits.{key_of}
use Rattle.edit_undo.specs.edit_rules.declared.acts.Act.{Act}
use Rattle.edit_undo.specs.edit_rules.declared.acts.Act.TheVariants as acts
use Rattle.edit_undo.specs.edit_rules.Acts.{has_key}
use Rattle.edit_undo.specs.edit_rules.Database.{DatabaseParts, KeepsDatabaseRules, bundle_with}
use Rattle.edit_undo.specs.edit_rules.Effects.{effect}
use Rattle.edit_undo.specs.edit_rules.Inner.Acts.{AreTogether, are_together}
use Rattle.edit_undo.proofs.of_edit_rules.KeyPlaces.{key_same}
use Rattle.edit_undo.specs.Inverse.{bundle_for}
use Rattle.edit_undo.specs.Before.{IsBefore}
use Rattle.edit_undo.proofs.Passing.{edits_before}

-- the bundle of the key of all edits is that of the first
pub list_bundle : (k : BundleKey) (es : List Edit) (bundles : List BundleParts) → AreTogether es → list_all (has_key k) es ≡ true
    → bundle_with k bundles ≡ bundle_for (acts.Edits es) bundles
list_bundle k [] bundles together own = absurd (false≢true together.together)
list_bundle k (e ∷ es) bundles together own =
    ap (λ (key : BundleKey). bundle_with key bundles) (sym (key_same (key_of e) k (and_parts (has_key k e) (list_all (has_key k) es) own).0))

-- edits that break no rule break none over the bundle of their key
pub list_before : (d next : DatabaseParts) (k : BundleKey) (es : List Edit) (act : Act) (found : Option BundleParts) → KeepsDatabaseRules d → list_all (has_key k) es ≡ true
    → act ≡ acts.Edits es → found ≡ bundle_for act d.bundles → effect d act ≡ Ok next → IsBefore d.config found act
list_before d next k es act found keeps own asks is made =
    let there : effect d (acts.Edits es) ≡ Ok next = subst (λ (a : Act). effect d a ≡ Ok next) asks made in
    subst (λ (b : Option BundleParts). IsBefore d.config b act) (sym is)
    (subst (λ (a : Act). IsBefore d.config (bundle_for a d.bundles) a) (sym asks) (edits_before d next k es keeps own there))
