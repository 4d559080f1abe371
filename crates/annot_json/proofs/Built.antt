-- The annotation of a bundle makes the bundle again.
use Rattle.std.proofs.Common.{◌≡◌, ◌≤◌, true, ◌&&◌, List, [], map, Option, Some, None, nat_le, refl, ap, sym, ◌∙◌, subst}
use Rattle.std.specs.Prelude.{Ok}
use Rattle.std.specs.Option.{is_none}
use Rattle.std.specs.List.{list_all}
use Rattle.std.proofs.lemmas.Bool.{and_from, le-leb}
use Rattle.emu_names.specs.declared.limits.TheConstants.{BUNDLE_ITEMS}
use Rattle.emu_names.specs.declared.rules.Broken.{Broken}
use Rattle.level_items.specs.Levels.{are_different}
use Rattle.db_config.specs.declared.parts.LinkDef.{LinkDef}
use Rattle.db_config.specs.declared.parts.ConfigParts.{ConfigParts}
use Rattle.db_config.specs.Names.{are_distinct}
use Rattle.db_config.specs.Valid.{is_valid}
use Rattle.bundle_state.specs.Bundle.{BundleParts, level_of_id}
use Rattle.bundle_state.specs.Built.{built, bundle_of, FitsConfig}
use Rattle.bundle_state.specs.Faults.{annot_fault, is_rate, given_count}
use Rattle.bundle_state.specs.Linked.{put_links, KeepLinkRule, pair_of}
use Rattle.bundle_state.specs.Made.{made_levels}
use Rattle.bundle_state.specs.Rules.{keeps_rules, is_level_in, level_names, all_given_ids}
use Rattle.bundle_state.specs.Valid.{KeepsBundleRules}
use Rattle.bundle_state.proofs.LevelsKept.{config_apart}
use Rattle.bundle_state.proofs.Refusals.{refuses_exactly}
use Rattle.annot_json.specs.Given.{given, given_levels}
use Rattle.annot_json.proofs.Fits.{sound, levels_named, levels_as, AreAs}
use Rattle.annot_json.proofs.Again.{levels_again}
use Rattle.annot_json.proofs.RulesAgain.{levels_found, levels_hold, names_differ, all_ids_same, count_same}
use Rattle.annot_json.proofs.LinksAgain.{links_again}

none_is : (o : Option Broken) → is_none o ≡ true → o ≡ None
none_is None h = refl
none_is (Some rule) h = cc

module _ (config : ConfigParts) (bundle : BundleParts) (valid : is_valid config ≡ true) (fits : FitsConfig config bundle) (rules : KeepsBundleRules bundle) where
  like : AreAs config.levels bundle.levels
  like = levels_as config.levels bundle.levels fits.levels (levels_named config.levels (sound config valid).names) rules.levels

  rules_hold : keeps_rules config.levels (given config bundle) ≡ true
  rules_hold =
      let levels = given_levels config.levels bundle.levels in
      let apart = config_apart config valid in
      let few : nat_le (given_count levels) BUNDLE_ITEMS ≡ true =
      le-leb (given_count levels) BUNDLE_ITEMS (subst (λ n. n ≤ BUNDLE_ITEMS) (sym (count_same config.levels bundle.levels like)) rules.few_items) in
      let held = levels_hold config.levels config.levels bundle.levels (levels_found config.levels apart) like in
      let names = names_differ config.levels bundle.levels apart in
      let ids : are_different (all_given_ids levels) ≡ true = ap are_different (all_ids_same config.levels bundle.levels like) ∙ rules.apart in
      and_from (is_rate bundle.rate && nat_le (given_count levels) BUNDLE_ITEMS && list_all (is_level_in config.levels) levels && are_distinct (level_names levels))
      (are_different (all_given_ids levels))
      (and_from (is_rate bundle.rate && nat_le (given_count levels) BUNDLE_ITEMS && list_all (is_level_in config.levels) levels) (are_distinct (level_names levels))
      (and_from (is_rate bundle.rate && nat_le (given_count levels) BUNDLE_ITEMS) (list_all (is_level_in config.levels) levels)
      (and_from (is_rate bundle.rate) (nat_le (given_count levels) BUNDLE_ITEMS) rules.rate few) held) names) ids

  no_fault : annot_fault config.levels (given config bundle) ≡ None
  no_fault = none_is (annot_fault config.levels (given config bundle)) (refuses_exactly config.levels (given config bundle) ∙ rules_hold)

  same_levels : made_levels config.levels (given_levels config.levels bundle.levels) ≡ bundle.levels
  same_levels = levels_again config.levels bundle.levels (config_apart config valid) like

  same_links : put_links config.links (level_of_id bundle.levels) (map pair_of bundle.links) [] ≡ Ok bundle.links
  same_links =
      let linked : KeepLinkRule config.links (level_of_id bundle.levels) bundle.links =
      subst (λ (defs : List LinkDef). KeepLinkRule defs (level_of_id bundle.levels) bundle.links) fits.definitions rules.linked in
      links_again config.links (level_of_id bundle.levels) (sound config valid).links [] bundle.links linked.between rules.few_links rules.pairs linked.kinds

  bundle_same : bundle_of config bundle.key (given config bundle) bundle.levels bundle.links ≡ bundle
  bundle_same = ap (λ (defs : List LinkDef). record { key = bundle.key; annotates = bundle.annotates; rate = bundle.rate; levels = bundle.levels; definitions = defs; links = bundle.links }) (sym fits.definitions)

pub given_builds : (config : ConfigParts) (bundle : BundleParts) → is_valid config ≡ true → FitsConfig config bundle → KeepsBundleRules bundle →
    built config bundle.key (given config bundle) ≡ Ok bundle
given_builds config bundle valid fits rules =
    rw (no_fault config bundle valid fits rules, same_levels config bundle valid fits rules, same_links config bundle valid fits rules)
    (ap Ok (bundle_same config bundle valid fits rules))
