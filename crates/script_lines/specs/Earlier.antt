-- The request lines that came before, as an `after` and an `undo` name them.
use Rattle.std.specs.Prelude.{ℕ, Bool, ◌&&◌, nat_eq}
use Rattle.session_core.specs.Commands.{is_change}
use Rattle.script_lines.specs.declared.line_set.EarlierLine.{EarlierLine}

-- a line has this number
abbrev pub is_line : ℕ → EarlierLine → Bool
is_line line it = nat_eq it.line line

-- a line is this one of this session, and asks for a change
abbrev pub is_change_of : ℕ → ℕ → EarlierLine → Bool
is_change_of session line it = nat_eq it.session.0 session && nat_eq it.line line && is_change it.command
