-- A bundle that is built keeps the rules of bundles, and has the levels of its configuration.
use Rattle.std.proofs.Common.{◌≡◌, ℕ, true, List, [], ◌∷◌, map, Option, Some, None, Result, Ok, Err, refl, sym, ◌∙◌, ap, subst}
use Rattle.emu_names.specs.declared.kinds.LevelKind.{LevelKind}
use Rattle.emu_names.specs.declared.names.BundleKey.{BundleKey}
use Rattle.std.specs.Result.{IsErrAnd}
use Rattle.emu_names.specs.declared.rules.Broken.{Broken}
use Rattle.emu_names.specs.declared.rules.Fault.{Fault}
use Rattle.emu_names.specs.declared.rules.Fault.TheVariants as faults
use Rattle.emu_names.specs.Inner.Gives.{GivesOrBroken}
use Rattle.level_items.specs.declared.annot.AnnotLevel.{AnnotLevel}
use Rattle.level_items.specs.declared.annot.AnnotLink.{AnnotLink}
use Rattle.level_items.specs.declared.annot.Annot.{Annot}
use Rattle.level_items.specs.Levels.{Level}
use Rattle.link_graph.specs.declared.link.Link.{Link}
use Rattle.db_config.specs.declared.parts.LevelDef.{LevelDef}
use Rattle.db_config.specs.declared.parts.ConfigParts.{ConfigParts}
use Rattle.db_config.specs.Valid.{is_valid}
use Rattle.bundle_state.specs.Bundle.{BundleParts, level_of_id}
use Rattle.bundle_state.specs.Faults.{annot_fault}
use Rattle.bundle_state.specs.Made.{made_levels}
use Rattle.bundle_state.specs.Linked.{unless_broken, put_links}
use Rattle.bundle_state.specs.Built.{bundle_of, linked, built, form_of, form_asked, FitsConfig}
use Rattle.bundle_state.specs.Valid.{KeepsBundleRules}
use Rattle.bundle_state.proofs.LevelsKept.{fine_annot, AreFine, made_fine}
use Rattle.bundle_state.proofs.LinksKept.{AreFineLinks, fine_none, links_fine, fine_value, ok_same, goes_on, onward_goes, onward_stops}

-- what a bundle is built of
pub record IsBuilt (config : ConfigParts) (key : BundleKey) (annot : Annot) (bundle : BundleParts) : Type 0 where
  pub fine : annot_fault config.levels annot ≡ None
  pub links : List Link
  pub put : put_links config.links (level_of_id (made_levels config.levels annot.levels)) annot.links [] ≡ Ok links
  pub is : bundle_of config key annot (made_levels config.levels annot.levels) links ≡ bundle

pub unbroken : {A : Type 0} (o : Option Broken) (x y : A) → unless_broken o x ≡ Ok y → (o ≡ None) × (x ≡ y)
unbroken None x y is = (refl, ok_same x y is)
unbroken (Some rule) x y is = cc

pub built_parts : (config : ConfigParts) (key : BundleKey) (annot : Annot) (bundle : BundleParts) → built config key annot ≡ Ok bundle → IsBuilt config key annot bundle
built_parts config key annot bundle is =
    let made = made_levels config.levels annot.levels in
    let on = goes_on (unless_broken (annot_fault config.levels annot) made) (linked config key annot) bundle is in
    let levels : (annot_fault config.levels annot ≡ None) × (made ≡ on.middle) = unbroken (annot_fault config.levels annot) made on.middle on.first in
    let second : linked config key annot made ≡ Ok bundle = ap (linked config key annot) levels.1 ∙ on.second in
    let links = goes_on (put_links config.links (level_of_id made) annot.links []) (λ links. fine_value (bundle_of config key annot made links)) bundle second in
    record {
      fine = levels.0;
      links = links.middle;
      put = links.first;
      is = ok_same (bundle_of config key annot made links.middle) bundle links.second;
    }

-- the rules of a bundle of these levels and links
pub rules_of : (config : ConfigParts) (key : BundleKey) (annot : Annot) (links : List Link) → is_valid config ≡ true → annot_fault config.levels annot ≡ None →
    put_links config.links (level_of_id (made_levels config.levels annot.levels)) annot.links [] ≡ Ok links →
    KeepsBundleRules (bundle_of config key annot (made_levels config.levels annot.levels) links)
rules_of config key annot links valid fine put =
    let level = level_of_id (made_levels config.levels annot.levels) in
    let levels : AreFine (made_levels config.levels annot.levels) = made_fine config annot valid fine in
    let own : AreFineLinks config.links level links = links_fine config.links level annot.links [] links put (fine_none config.links level) in
    record {
      rate = (fine_annot config.levels annot fine).rate;
      few_items = levels.few;
      apart = levels.apart;
      levels = levels.rules;
      few_links = own.few;
      pairs = own.pairs;
      linked = own.linked;
    }

pub built_keeps : (config : ConfigParts) (key : BundleKey) (annot : Annot) (bundle : BundleParts) → is_valid config ≡ true → built config key annot ≡ Ok bundle → KeepsBundleRules bundle
built_keeps config key annot bundle valid is =
    let parts : IsBuilt config key annot bundle = built_parts config key annot bundle is in
    subst KeepsBundleRules parts.is (rules_of config key annot parts.links valid parts.fine parts.put)

forms : (levels : List AnnotLevel) (defs : List LevelDef) → map form_of (made_levels defs levels) ≡ map form_asked defs
forms levels [] = refl
forms levels (def ∷ defs) = ap (λ (rest : List (LevelKind × ℕ)). form_asked def ∷ rest) (forms levels defs)

pub built_fits : (config : ConfigParts) (key : BundleKey) (annot : Annot) (bundle : BundleParts) → built config key annot ≡ Ok bundle → FitsConfig config bundle
built_fits config key annot bundle is =
    let parts : IsBuilt config key annot bundle = built_parts config key annot bundle is in
    subst (FitsConfig config) parts.is (record { levels = forms annot.levels config.levels; definitions = refl })

-- The steps of building.

-- the levels that are made are those that are seen
module _ (config : ConfigParts) (annot : Annot) (levels seen : List Level) (given : List AnnotLink) where
  pub linked_by : made_levels config.levels annot.levels ≡ levels → seen ≡ levels → given ≡ annot.links →
      put_links config.links (level_of_id (made_levels config.levels annot.levels)) annot.links [] ≡ put_links config.links (level_of_id seen) given []
  linked_by made seen_is given_is =
      ap (λ gs. put_links config.links (level_of_id (made_levels config.levels annot.levels)) gs []) (sym given_is)
      ∙ ap (λ ls. put_links config.links (level_of_id ls) given []) (made ∙ sym seen_is)

pub build_rules : (config : ConfigParts) (key : BundleKey) (annot : Annot) (levels : List Level) (links : List Link) → is_valid config ≡ true →
    unless_broken (annot_fault config.levels annot) (made_levels config.levels annot.levels) ≡ Ok levels →
    put_links config.links (level_of_id (made_levels config.levels annot.levels)) annot.links [] ≡ Ok links →
    KeepsBundleRules (bundle_of config key annot levels links)
build_rules config key annot levels links valid tested put =
    let parts : (annot_fault config.levels annot ≡ None) × (made_levels config.levels annot.levels ≡ levels) = unbroken (annot_fault config.levels annot) (made_levels config.levels annot.levels) levels tested in
    subst (λ ls. KeepsBundleRules (bundle_of config key annot ls links)) parts.1 (rules_of config key annot links valid parts.0 put)

-- all but the links
abbrev pub links_of : ConfigParts → Annot → Result (List Link) Broken
links_of config annot = put_links config.links (level_of_id (made_levels config.levels annot.levels)) annot.links []

pub build_gives : (config : ConfigParts) (key : BundleKey) (annot : Annot) (levels : List Level) (links : List Link) →
    unless_broken (annot_fault config.levels annot) (made_levels config.levels annot.levels) ≡ Ok levels →
    links_of config annot ≡ Ok links → built config key annot ≡ Ok (bundle_of config key annot levels links)
build_gives config key annot levels links tested put =
    let made : made_levels config.levels annot.levels ≡ levels = (unbroken (annot_fault config.levels annot) (made_levels config.levels annot.levels) levels tested).1 in
    onward_goes (unless_broken (annot_fault config.levels annot) (made_levels config.levels annot.levels)) (linked config key annot) levels tested
    ∙ ap (linked config key annot) (sym made)
    ∙ onward_goes (links_of config annot) (λ ls. fine_value (bundle_of config key annot (made_levels config.levels annot.levels) ls)) links put
    ∙ ap (λ ls. fine_value (bundle_of config key annot ls links)) made

pub build_breaks : (config : ConfigParts) (key : BundleKey) (annot : Annot) (levels : List Level) (rule : Broken) →
    unless_broken (annot_fault config.levels annot) (made_levels config.levels annot.levels) ≡ Ok levels →
    links_of config annot ≡ Err rule → built config key annot ≡ Err rule
build_breaks config key annot levels rule tested put =
    let made : made_levels config.levels annot.levels ≡ levels = (unbroken (annot_fault config.levels annot) (made_levels config.levels annot.levels) levels tested).1 in
    onward_goes (unless_broken (annot_fault config.levels annot) (made_levels config.levels annot.levels)) (linked config key annot) levels tested
    ∙ ap (linked config key annot) (sym made)
    ∙ onward_stops (links_of config annot) (λ ls. fine_value (bundle_of config key annot (made_levels config.levels annot.levels) ls)) rule put

-- a fault of a step is that of the whole
pub build_stops : (answer : Result BundleParts Fault) (e : Fault) (step : Result (List Link) Broken) (whole : Result BundleParts Broken) →
    IsErrAnd answer (λ x. x ≡ e) → GivesOrBroken {A = List Link} (Err e) step → ((rule : Broken) → step ≡ Err rule → whole ≡ Err rule) → GivesOrBroken answer whole
build_stops (Ok x) e step whole same tells on = absurd same
build_stops (Err x) e step whole same tells on = subst (λ (f : Fault). GivesOrBroken {A = BundleParts} (Err f) whole) (sym same) (again e tells)
  where
    again : (f : Fault) → GivesOrBroken {A = List Link} (Err f) step → GivesOrBroken {A = BundleParts} (Err f) whole
    again (faults.Broken rule) h = on rule h
    again faults.Memory h = tt
