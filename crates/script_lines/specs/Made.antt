-- What a maker of patterns made of the query that a line asks (EMU-SDMS Manual, "The EMU Query Language
-- (EQL)").
use Rattle.std.specs.Prelude.{ℕ, List, Option, Some, None, Result, Ok, Err, if◌then◌else◌}
use Rattle.serde_json.specs.Data.{Data}
use Rattle.json_view.specs.declared.faults.Shape.{Shape}
use Rattle.json_view.specs.Seen.{Seen, seen}
use Rattle.json_view.specs.Paths.{root_path}
use Rattle.eql_resolve.specs.Made.{Made, IsMade}
use Rattle.session_core.specs.declared.line.Command.{Command}
use Rattle.script_lines.specs.Values.{is_blank, json_of, word_of_line}
use Rattle.script_lines.specs.Questions.{Question, question_at, question_command}

-- what is made where a query may be asked
abbrev pub IsMadeOf : Option (List ℕ) → Made → Type 0
IsMadeOf None made = Unit {0}
IsMadeOf (Some text) made = IsMade text made

-- the text of a question that was read well
abbrev pub eql_read : Result Question Shape → Option (List ℕ)
eql_read (Ok q) = Some q.eql
eql_read (Err s) = None

-- the text of the query, where the command is a question's
abbrev pub eql_asked : Option Command → Seen → Option (List ℕ)
eql_asked None s = None
eql_asked (Some command) s = eql_read (question_at s)

-- the same, where what the value does was read
abbrev pub eql_told : Result (List ℕ) Shape → Seen → Option (List ℕ)
eql_told (Err fault) s = None
eql_told (Ok word) s = eql_asked (question_command word) s

-- the same, of a line that is JSON or none
abbrev pub eql_in : Option Data → Option (List ℕ)
eql_in None = None
eql_in (Some d) = eql_told (word_of_line (seen d root_path)) (seen d root_path)

-- the text of the query that a line asks: the member `eql` of a JSON object whose `do` is `query` or
-- `look`, and whose session, `eql` and `time` are all of their form, wherever the line stands
unfoldable pub eql_of : List ℕ → Option (List ℕ)
eql_of line = if is_blank line then None else eql_in (json_of line)
