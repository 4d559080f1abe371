-- An annotation is refused exactly where it breaks a rule.
use Rattle.std.proofs.Common.{◌≡◌, true, Option, Some, None, Result, Ok, Err, refl, sym, ◌∙◌, ap, IsOk, ◌↔◌}
use Rattle.std.specs.Option.{is_none}
use Rattle.emu_names.specs.declared.names.BundleKey.{BundleKey}
use Rattle.emu_names.specs.declared.rules.Broken.{Broken}
use Rattle.level_items.specs.declared.annot.Annot.{Annot}
use Rattle.db_config.specs.declared.parts.ConfigParts.{ConfigParts}
use Rattle.bundle_state.specs.Bundle.{BundleParts, level_of_id}
use Rattle.bundle_state.specs.Faults.{annot_fault}
use Rattle.bundle_state.specs.Made.{made_levels}
use Rattle.bundle_state.specs.Linked.{unless_broken}
use Rattle.bundle_state.specs.Built.{bundle_of, built}
use Rattle.bundle_state.specs.Rules.{KeepsAllRules}
use Rattle.bundle_state.proofs.Refusals.{refuses_exactly}
use Rattle.bundle_state.proofs.LinkRefusals.{links_keep, ArePut, links_put}
use Rattle.bundle_state.proofs.BuiltKept.{IsBuilt, built_parts, build_gives}

none_is : (o : Option Broken) → is_none o ≡ true → o ≡ None
none_is None is = refl
none_is (Some rule) is = cc

ok_of : (r : Result BundleParts Broken) (b : BundleParts) → r ≡ Ok b → IsOk r
ok_of (Ok x) b is = refl
ok_of (Err rule) b is = cc

accepted : (config : ConfigParts) (key : BundleKey) (annot : Annot) (r : Result BundleParts Broken) → built config key annot ≡ r → IsOk r → KeepsAllRules config annot
accepted config key annot (Ok bundle) is ok =
    let parts : IsBuilt config key annot bundle = built_parts config key annot bundle is in
    record {
      levels = sym (refuses_exactly config.levels annot) ∙ ap (λ (o : Option Broken). is_none o) parts.fine;
      links = links_keep config.links (level_of_id (made_levels config.levels annot.levels)) annot.links parts.links parts.put;
    }
accepted config key annot (Err rule) is ok = cc

kept : (config : ConfigParts) (key : BundleKey) (annot : Annot) → KeepsAllRules config annot → IsOk (built config key annot)
kept config key annot keeps =
    let fine : annot_fault config.levels annot ≡ None = none_is (annot_fault config.levels annot) (refuses_exactly config.levels annot ∙ keeps.levels) in
    let links : ArePut config.links (level_of_id (made_levels config.levels annot.levels)) annot.links = links_put config.links (level_of_id (made_levels config.levels annot.levels)) annot.links keeps.links in
    ok_of (built config key annot) (bundle_of config key annot (made_levels config.levels annot.levels) links.built)
    (build_gives config key annot (made_levels config.levels annot.levels) links.built (ap (λ (o : Option Broken). unless_broken o (made_levels config.levels annot.levels)) fine) links.is)

pub building_refuses : (config : ConfigParts) (key : BundleKey) (annot : Annot) → IsOk (built config key annot) ↔ KeepsAllRules config annot
building_refuses config key annot = (λ ok. accepted config key annot (built config key annot) refl ok, λ keeps. kept config key annot keeps)
