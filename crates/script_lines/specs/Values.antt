-- The JSON value that a line of a script is, and the word that says what it does.
use Rattle.std.specs.Prelude.{ℕ, Bool, ◌||◌, List, Option, None, Result, ◌==◌, if◌then◌else◌, codes}
use Rattle.std.specs.List.{list_all}
use Rattle.std.specs.Str.{is_utf8}
use Rattle.serde_json.specs.Data.{Data}
use Rattle.serde_json.specs.Read.{read}
use Rattle.json_view.specs.declared.faults.Shape.{Shape}
use Rattle.json_view.specs.Seen.{Seen}
use Rattle.json_view.specs.Parts.{optional_of}
use Rattle.json_view.specs.Steps.{◌>>=◌}
use Rattle.config_json.specs.Forms.{text_member}

-- white space (RFC 8259, section 2)
abbrev pub is_space : ℕ → Bool
is_space b = (b == 32) || (b == 9) || (b == 10) || (b == 13)

-- a line of white space alone
abbrev pub is_blank : List ℕ → Bool
is_blank line = list_all is_space line

-- the JSON value that a line is
unfoldable pub json_of : List ℕ → Option Data
json_of line = if is_utf8 line then read line else None

-- what a line does: an object whose `do` is a text
unfoldable pub word_of_line : Seen → Result (List ℕ) Shape
word_of_line s = do
  _ ← optional_of (codes "do") s
  text_member (codes "do") s
