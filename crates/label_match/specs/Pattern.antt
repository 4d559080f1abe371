-- Which texts are patterns of labels, and which labels they match.
use Rattle.std.specs.Prelude.{ℕ, Bool, false, List, ◌++◌, Option, None, Some, codes, nat_le, ◌&&◌, is_some}
use Rattle.std.specs.Str.{chars}
use Rattle.regex.specs.Patterns.{Re, find_str, default_config}
use Rattle.regex_syntax.specs.Brackets.{Nested}
use Rattle.regex_syntax.specs.Grammar.{Names, read}

-- the text set so that it has to match from the start of a label to its end
abbrev pub set_text : List ℕ → List ℕ
set_text text = codes "^(?:" ++ (text ++ codes ")$")

-- what the grammar of regular expressions reads in a text
abbrev pub read_in : List ℕ → Option (Nested Re × Names)
read_in text = read default_config (chars text)

-- something was read, and it is nested within the limit
abbrev pub is_shallow : Option (Nested Re × Names) → Bool
is_shallow None = false
is_shallow (Some found) = nat_le found.0.depth default_config.nest_limit

-- what was read is found somewhere in the label
abbrev pub is_found : Option (Nested Re × Names) → List ℕ → Bool
is_found None label = false
is_found (Some found) label = is_some (find_str found.0.value label 0)

-- whether the text and the set text are patterns
abbrev pub are_patterns : List ℕ → Bool
are_patterns text = is_shallow (read_in text) && is_shallow (read_in (set_text text))

-- whether the text's pattern matches the whole label
abbrev pub matches_label : List ℕ → List ℕ → Bool
matches_label text label = is_found (read_in (set_text text)) label
