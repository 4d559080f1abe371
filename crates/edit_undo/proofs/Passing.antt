-- An act that breaks no rule of a database breaks none over the bundle of its key.
use Rattle.std.proofs.Common.{◌≡◌, true, List, [], ◌∷◌, None, Ok, refl, sym, ◌∙◌, subst}
use Rattle.std.specs.List.{list_all}
use Rattle.std.proofs.lemmas.Bool.{and_parts}
use Rattle.emu_names.specs.declared.names.BundleKey.{BundleKey}
use Rattle.bundle_edits.specs.declared.edit.Edit.{Edit}
use Rattle.bundle_edits.specs.Edits.{key_of}
use Rattle.edit_rules.specs.declared.acts.Act.TheVariants as acts
use Rattle.edit_rules.specs.Acts.{has_key}
use Rattle.edit_rules.specs.Database.{DatabaseParts, KeepsDatabaseRules, bundle_with, without, counts_of}
use Rattle.edit_rules.specs.Effects.{in_turn}
use Rattle.edit_rules.specs.Laws.{put_whole}
use Rattle.edit_rules.specs.Turns.{changed_in_turn}
use Rattle.edit_rules.proofs.Bundles.{change_one_bundle}
use Rattle.edit_rules.proofs.KeyPlaces.{key_same}
use Rattle.edit_rules.proofs.Turns.{goes_on}
use Rattle.edit_undo.specs.Inverse.{bundle_for}
use Rattle.edit_undo.specs.Before.{BreakNoRule, PassingActsAreBefore}

pub edits_before : (d next : DatabaseParts) (key : BundleKey) (es : List Edit) → KeepsDatabaseRules d → list_all (has_key key) es ≡ true → in_turn 1 d es ≡ Ok next →
    BreakNoRule d.config (bundle_for (acts.Edits es) d.bundles) es
edits_before d next key [] keeps all is = record { others = counts_of d.bundles; next = None; passes = refl }
edits_before d next key (e ∷ es) keeps all is =
    let own : key_of e ≡ key = key_same (key_of e) key (and_parts (has_key key e) (list_all (has_key key) es) all).0 in
    let on = goes_on (changed_in_turn d.config (counts_of (without key d.bundles)) 1 (bundle_with key d.bundles) (e ∷ es)) (put_whole d key) next
    (sym (change_one_bundle d key (e ∷ es) keeps all) ∙ is) in
    subst (λ (k : BundleKey). BreakNoRule d.config (bundle_with k d.bundles) (e ∷ es)) (sym own)
    (record { others = counts_of (without key d.bundles); next = on.middle; passes = on.first })

pub acts_before : PassingActsAreBefore
acts_before d next (acts.Edits es) keeps one is = edits_before d next one.0 es keeps one.1 is
acts_before d next (acts.Config edit) keeps one is = tt
