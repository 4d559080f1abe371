-- Which texts are names of databases, sessions, bundles, levels and attributes.
use Rattle.std.specs.Prelude.{ℕ, Bool, List, ◌&&◌, ◌==◌, not, nat_le, length}
use Rattle.std.specs.List.{list_all}
use Rattle.emu_names.specs.declared.limits.TheConstants.{NAME_BYTES}

-- neither one of the 32 control characters before the space nor the delete character
abbrev pub is_clean : ℕ → Bool
is_clean byte = nat_le 32 byte && not (byte == 127)

-- 1 to 255 clean bytes
abbrev pub is_name : List ℕ → Bool
is_name text = nat_le 1 (length text) && nat_le (length text) NAME_BYTES && list_all is_clean text
