-- A database under a configuration with more parts keeps the rules.
use Rattle.std.proofs.Common.{◌≡◌, ℕ, ◌<◌, true, ◌&&◌, List, [], ◌∷◌, length, map, get_or, Result, Ok, Err, IsTrue, refl, sym, ◌∙◌, ap, subst, arith}
use Rattle.std.specs.Prelude.{All}
use Rattle.std.proofs.lemmas.List.{length-map}
use Rattle.std.proofs.lemmas.List.Elements.{All-nil, All-cons, All-head, All-tail}
use Rattle.emu_names.specs.declared.rules.Broken.{Broken}
use Rattle.emu_names.specs.Steps.{onward}
use Rattle.db_config.specs.declared.parts.ConfigParts.{ConfigParts}
use Rattle.db_config.specs.Extends.{Extends}
use Rattle.db_config.specs.Valid.{is_valid}
use Rattle.config_additions.proofs.Grown.{level_valid, attribute_valid, definition_valid, level_extends, attribute_extends, definition_extends}
use Rattle.bundle_state.specs.Bundle.{BundleParts, item_count}
use Rattle.bundle_state.specs.Fitted.{fitted, CanFit}
use Rattle.bundle_state.proofs.FittedKept.{extensions_can_fit, fitted_fits, fitted_rules, same_count}
use Rattle.edit_rules.specs.declared.acts.Breach.{Breach}
use Rattle.edit_rules.specs.declared.acts.ConfigEdit.{ConfigEdit}
use Rattle.edit_rules.specs.declared.acts.ConfigEdit.TheVariants as additions
use Rattle.edit_rules.specs.Acts.{config_changed}
use Rattle.edit_rules.specs.Database.{DatabaseParts, IsBundleOf, KeepsDatabaseRules, all_items, are_keys_rising, is_before}
use Rattle.edit_rules.specs.Effects.{at_place, fitted_database, config_effect}
use Rattle.edit_rules.specs.Inner.Kept.{IsKept}
use Rattle.edit_rules.proofs.Stays.{items_cons}

-- the database under a configuration, as an answer
abbrev put_config : DatabaseParts → ConfigParts → Result DatabaseParts Breach
put_config d config = Ok (fitted_database d config)

-- ---- configurations

pub config_valid : (edit : ConfigEdit) (c next : ConfigParts) → is_valid c ≡ true → config_changed edit c ≡ Ok next → is_valid next ≡ true
config_valid (additions.AddLevel level) c next valid is = level_valid level c next valid is
config_valid (additions.AddAttribute level attribute) c next valid is = attribute_valid level attribute c next valid is
config_valid (additions.AddLinkDefinition kind upper lower) c next valid is = definition_valid kind upper lower c next valid is

pub config_extends : (edit : ConfigEdit) (c next : ConfigParts) → config_changed edit c ≡ Ok next → Extends c next
config_extends (additions.AddLevel level) c next is = level_extends level c next is
config_extends (additions.AddAttribute level attribute) c next is = attribute_extends level attribute c next is
config_extends (additions.AddLinkDefinition kind upper lower) c next is = definition_extends kind upper lower c next is

-- ---- bundles

-- each bundle can be made to fit
pub all_can_fit : (old new : ConfigParts) (bs : List BundleParts) → Extends old new → All (IsBundleOf old) bs → All (CanFit new) bs
all_can_fit old new [] more all = All-nil (CanFit new)
all_can_fit old new (b ∷ bs) more all =
    All-cons (CanFit new) b bs (extensions_can_fit old new b more (All-head (IsBundleOf old) b bs all).fits)
    (all_can_fit old new bs more (All-tail (IsBundleOf old) b bs all))

pub all_fitted : (old new : ConfigParts) (bs : List BundleParts) → Extends old new → All (IsBundleOf old) bs → All (IsBundleOf new) (map (fitted new) bs)
all_fitted old new [] more all = All-nil (IsBundleOf new)
all_fitted old new (b ∷ bs) more all =
    let here = All-head (IsBundleOf old) b bs all in
    let can = extensions_can_fit old new b more here.fits in
    All-cons (IsBundleOf new) (fitted new b) (map (fitted new) bs)
    (record { rules = fitted_rules new b can here.rules; fits = fitted_fits new b can })
    (all_fitted old new bs more (All-tail (IsBundleOf old) b bs all))

pub rising_fitted : (new : ConfigParts) (bs : List BundleParts) → are_keys_rising (map (fitted new) bs) ≡ are_keys_rising bs
rising_fitted new [] = refl
rising_fitted new (a ∷ []) = refl
rising_fitted new (a ∷ b ∷ bs) = ap (λ t. is_before a.key b.key && t) (rising_fitted new (b ∷ bs))

pub items_fitted : (old new : ConfigParts) (bs : List BundleParts) → Extends old new → All (IsBundleOf old) bs → all_items (map (fitted new) bs) ≡ all_items bs
items_fitted old new [] more all = refl
items_fitted old new (b ∷ bs) more all =
    let here = All-head (IsBundleOf old) b bs all in
    let rest = items_fitted old new bs more (All-tail (IsBundleOf old) b bs all) in
    let own = same_count new b (extensions_can_fit old new b more here.fits) in
    let one = items_cons (fitted new b) (map (fitted new) bs) in
    let two = items_cons b bs in
    omega (arith, rest, own, one, two)

-- ---- databases

pub fitted_keeps : (d : DatabaseParts) (config : ConfigParts) → KeepsDatabaseRules d → Extends d.config config → is_valid config ≡ true → KeepsDatabaseRules (fitted_database d config)
fitted_keeps d config keeps more valid =
    let count = length-map d.bundles (fitted config) in
    let few = keeps.few in
    let items = items_fitted d.config config d.bundles more keeps.bundles in
    let few_items = keeps.few_items in
    record {
      config = valid;
      few = omega (arith, count, few);
      rising = rising_fitted config d.bundles ∙ keeps.rising;
      bundles = all_fitted d.config config d.bundles more keeps.bundles;
      few_items = omega (arith, items, few_items);
    }

-- the items stay counted
pub refit_kept : (d : DatabaseParts) (config : ConfigParts) (bundles : List BundleParts) (items : ℕ) → IsKept d items → Extends d.config config → is_valid config ≡ true →
    bundles ≡ map (fitted config) d.bundles → IsKept (record { config = config; bundles = bundles }) items
refit_kept d config bundles items kept more valid is =
    subst (λ bs. IsKept (record { config = config; bundles = bs }) items) (sym is)
    (record {
      rules = fitted_keeps d config kept.rules more valid;
      count = kept.count ∙ sym (items_fitted d.config config d.bundles more kept.rules.bundles);
    })

-- the same, where configuration and bundles are handed on
pub refitted : (d : DatabaseParts) (asked config : ConfigParts) (given bundles : List BundleParts) (items : ℕ) → IsKept d items → Extends d.config asked → is_valid asked ≡ true →
    config ≡ asked → given ≡ d.bundles → bundles ≡ map (fitted asked) given → IsKept (record { config = config; bundles = bundles }) items
refitted d asked config given bundles items kept more valid same alike is =
    subst (λ c. IsKept (record { config = c; bundles = bundles }) items) (sym same)
    (refit_kept d asked bundles items kept more valid (is ∙ ap (map (fitted asked)) alike))

pub all_fit_by : (d : DatabaseParts) (config : ConfigParts) → KeepsDatabaseRules d → Extends d.config config → All (CanFit config) d.bundles
all_fit_by d config keeps more = all_can_fit d.config config d.bundles more keeps.bundles

pub fit_at : (config : ConfigParts) (bs : List BundleParts) (i : ℕ) (b : BundleParts) → All (CanFit config) bs → i < length bs → b ≡ get_or bs i b → CanFit config b
fit_at config bs i b all within is = subst (CanFit config) (sym is) (all i b within)

-- ---- an edit of the configuration, over what a database shows of it

module _ (edit : ConfigEdit) (d : DatabaseParts) (own : ConfigParts) (same : own ≡ d.config) where
  from_own : (r : Result ConfigParts Broken) → config_changed edit own ≡ r → config_changed edit d.config ≡ r
  from_own r is = ap (config_changed edit) (sym same) ∙ is

  pub extends_by : (config : ConfigParts) → config_changed edit own ≡ Ok config → Extends d.config config
  extends_by config is = config_extends edit d.config config (from_own (Ok config) is)

  pub valid_by : (config : ConfigParts) → KeepsDatabaseRules d → config_changed edit own ≡ Ok config → is_valid config ≡ true
  valid_by config keeps is = config_valid edit d.config config keeps.config (from_own (Ok config) is)

  pub done_by : (config : ConfigParts) (next : DatabaseParts) → config_changed edit own ≡ Ok config → next ≡ fitted_database d config → config_effect d edit ≡ Ok next
  done_by config next is made =
      ap (λ r. onward (at_place 1 r) (λ c. put_config d c)) (from_own (Ok config) is) ∙ ap (λ n. Ok n) (sym made)

  pub refused_by : (rule : Broken) → config_changed edit own ≡ Err rule → config_effect d edit ≡ Err (record { place = 1; rule = rule })
  refused_by rule is = ap (λ r. onward (at_place 1 r) (λ c. put_config d c)) (from_own (Err rule) is)
