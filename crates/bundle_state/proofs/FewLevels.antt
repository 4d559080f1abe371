-- A configuration has at most 64 levels, and so has what is made for it.
use Rattle.std.proofs.Common.{◌≡◌, ◌≤◌, ◌<◌, ℕ, true, not, ◌&&◌, length, nat_le, arith, sym, ◌∙◌, ap, List, Ok}
use Rattle.std.specs.List.{list_all}
use Rattle.std.proofs.lemmas.Bool.{and_parts, leb-true}
use Rattle.std.proofs.lemmas.List.{length-map}
use Rattle.emu_names.specs.declared.limits.TheConstants.{LEVELS, LINK_DEFINITIONS, TRACKS}
use Rattle.level_items.specs.declared.annot.Annot.{Annot}
use Rattle.level_items.specs.Levels.{Level}
use Rattle.db_config.specs.declared.parts.ConfigParts.{ConfigParts}
use Rattle.db_config.specs.Above.{leads_round}
use Rattle.db_config.specs.Names.{all_names, are_distinct}
use Rattle.db_config.specs.Valid.{are_within_limits, is_in_range, are_apart, keeps_rules, is_valid}
use Rattle.bundle_state.specs.Bundle.{BundleParts}
use Rattle.bundle_state.specs.Built.{FitsConfig, form_of, form_asked}
use Rattle.bundle_state.specs.Faults.{annot_fault}
use Rattle.bundle_state.specs.Linked.{unless_broken}
use Rattle.bundle_state.specs.Made.{made_level, made_levels}
use Rattle.bundle_state.proofs.BuiltKept.{unbroken}

config_few : (config : ConfigParts) → is_valid config ≡ true → length config.levels ≤ LEVELS
config_few config valid =
    let named = are_within_limits config && are_distinct (all_names config.levels) in
    let ranged = named && list_all (is_in_range (length config.levels)) config.links in
    let rules = (and_parts (keeps_rules config) (not (leads_round config.links)) valid).0 in
    let three = (and_parts ranged (are_apart config.links) rules).0 in
    let two = (and_parts named (list_all (is_in_range (length config.levels)) config.links) three).0 in
    let limits = (and_parts (are_within_limits config) (are_distinct (all_names config.levels)) two).0 in
    let counts = nat_le (length config.levels) LEVELS && nat_le (length config.links) LINK_DEFINITIONS in
    let first = (and_parts counts (nat_le (length config.tracks) TRACKS) limits).0 in
    leb-true (length config.levels) LEVELS (and_parts (nat_le (length config.levels) LEVELS) (nat_le (length config.links) LINK_DEFINITIONS) first).0

pub made_few : (config : ConfigParts) (annot : Annot) (levels : List Level) → is_valid config ≡ true →
    unless_broken (annot_fault config.levels annot) (made_levels config.levels annot.levels) ≡ Ok levels → length levels ≤ LEVELS
made_few config annot levels valid tested =
    let made = (unbroken (annot_fault config.levels annot) (made_levels config.levels annot.levels) levels tested).1 in
    let count : length levels ≡ length config.levels = ap length (sym made) ∙ length-map config.levels (made_level annot.levels) in
    let few = config_few config valid in
    omega (arith, count, few)

pub fitting_low : (config : ConfigParts) (bundle : BundleParts) (number : ℕ) → is_valid config ≡ true → FitsConfig config bundle →
    number < length bundle.levels → number < LEVELS
fitting_low config bundle number valid fits low =
    let count : length bundle.levels ≡ length config.levels
    = sym (length-map bundle.levels form_of) ∙ ap length fits.levels ∙ length-map config.levels form_asked in
    let few = config_few config valid in
    omega (arith, count, few, low)
