-- Parts whose names, numbers and link definitions were tested keep the rules.
use Rattle.std.proofs.Common.{◌≡◌, true, List, length, subst, ◌≤◌, sym}
use Rattle.std.specs.List.{list_all}
use Rattle.std.proofs.lemmas.Bool.{and_from, le-leb}
use Rattle.db_config.specs.declared.parts.LinkDef.{LinkDef}
use Rattle.config_json.specs.declared.named.NamedParts.{NamedParts}
use Rattle.emu_names.specs.declared.limits.TheConstants.{LEVELS, LINK_DEFINITIONS, TRACKS}
use Rattle.db_config.specs.Names.{all_names, are_distinct}
use Rattle.db_config.specs.Valid.{is_in_range, are_apart, keeps_rules}
use Rattle.config_json.specs.Read.{parts_with}
use Rattle.config_json.specs.Inner.Read.{AreBounded}

pub kept_rules : (n : NamedParts) (links : List LinkDef) → AreBounded n → are_distinct (all_names n.levels) ≡ true →
    list_all (is_in_range (length n.levels)) links ≡ true → length links ≡ length n.links → are_apart links ≡ true →
    keeps_rules (parts_with n links) ≡ true
kept_rules n links bounds distinct range count apart =
    let few : length links ≤ LINK_DEFINITIONS = subst (λ m. m ≤ LINK_DEFINITIONS) (sym count) bounds.links in
    and_from _ _
    (and_from _ _
    (and_from _ _
    (and_from _ _ (and_from _ _ (le-leb (length n.levels) LEVELS bounds.levels) (le-leb (length links) LINK_DEFINITIONS few)) (le-leb (length n.tracks) TRACKS bounds.tracks))
    distinct) range) apart
