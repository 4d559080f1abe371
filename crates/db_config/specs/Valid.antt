-- Which parts are a configuration (EMU-SDMS Manual, "The emuDB format": `_DBconfig.json`).
use Rattle.std.specs.Prelude.{ℕ, Bool, true, ◌&&◌, not, ◌==◌, List, [], ◌∷◌, length, nat_le, nat_lt}
use Rattle.std.specs.List.{list_all, list_any}
use Rattle.emu_names.specs.declared.limits.TheConstants.{LEVELS, LINK_DEFINITIONS, TRACKS}
use Rattle.db_config.specs.declared.parts.LinkDef.{LinkDef}
use Rattle.db_config.specs.declared.parts.ConfigParts.{ConfigParts}
use Rattle.db_config.specs.Made.{is_made}
use Rattle.db_config.specs.Names.{all_names, are_distinct}
use Rattle.db_config.specs.Above.{leads_round}

-- at most 64 levels, 64 link definitions and 1,024 tracks
abbrev pub are_within_limits : ConfigParts → Bool
are_within_limits parts =
    nat_le (length parts.levels) LEVELS
    && nat_le (length parts.links) LINK_DEFINITIONS
    && nat_le (length parts.tracks) TRACKS

-- a link definition names levels that are there
abbrev pub is_in_range : ℕ → LinkDef → Bool
is_in_range count def = nat_lt def.upper count && nat_lt def.lower count

-- two link definitions have the same upper and the same lower level
abbrev pub same_levels : LinkDef → LinkDef → Bool
same_levels d e = (d.upper == e.upper) && (d.lower == e.lower)

-- no two link definitions have the same two levels
abbrev pub are_apart : List LinkDef → Bool
are_apart [] = true
are_apart (d ∷ defs) = not (list_any (same_levels d) defs) && are_apart defs

-- all rules but that no path of link definitions leads round
abbrev pub keeps_rules : ConfigParts → Bool
keeps_rules parts =
    are_within_limits parts
    && are_distinct (all_names parts.levels)
    && list_all (is_in_range (length parts.levels)) parts.links
    && are_apart parts.links

-- the rules on the parts together: limits, names that stand once, link definitions
abbrev pub is_valid : ConfigParts → Bool
is_valid parts = keeps_rules parts && not (leads_round parts.links)

-- the parts are a configuration: each of them is one by itself, and they keep the rules together
abbrev pub is_config : ConfigParts → Bool
is_config parts = is_made parts && is_valid parts
