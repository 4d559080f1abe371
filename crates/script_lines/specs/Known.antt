-- What is known of a line that was read: it is of the kind that was wanted, and a request has the form
-- that the core takes.
use Rattle.std.specs.Prelude.{◌≡◌, ℕ, ◌<◌, Bool, true, false, List, Ok}
use Rattle.std.specs.List.{list_any}
use Rattle.session_core.specs.declared.line.Line.{Line}
use Rattle.session_core.specs.declared.line.Request.{Request}
use Rattle.session_core.specs.declared.line.Request.TheVariants as requests
use Rattle.db_config.specs.Valid.{is_valid}
use Rattle.session_core.specs.Steps.{session_places}
use Rattle.session_core.specs.Commands.{is_command_of}
use Rattle.script_lines.specs.declared.faults.ReadLine.{ReadLine}
use Rattle.script_lines.specs.declared.faults.ReadLine.TheVariants as reads
use Rattle.script_lines.specs.declared.line_set.EarlierLine.{EarlierLine}
use Rattle.script_lines.specs.Earlier.{is_change_of, is_line}
use Rattle.eql_resolve.specs.Made.{Made}
use Rattle.script_lines.specs.Lines.{request_of}

-- an `after` names one of the earlier requests, and an `undo` one of its session that asked for a change
abbrev pub NamesOneOf : List EarlierLine → ℕ → Request → Type 0
NamesOneOf earlier session (requests.After line) = list_any (is_line line) earlier ≡ true
NamesOneOf earlier session (requests.Undo line) = list_any (is_change_of session line) earlier ≡ true
NamesOneOf earlier session (requests.Edit edit) = Unit {0}
NamesOneOf earlier session (requests.Query ask) = Unit {0}
NamesOneOf earlier session (requests.Look ask) = Unit {0}
NamesOneOf earlier session requests.Finish = Unit {0}

-- a request has the number of its line, a session with a place, the command of its request, and
-- where it is an `after` or an `undo` an earlier request that it names
pub record IsRequestLine (n : ℕ) (earlier : List EarlierLine) (l : Line) : Type 0 where
  pub number : l.line ≡ n
  pub place : l.session.0 < session_places
  pub command : is_command_of l.command l.request ≡ true
  pub names : NamesOneOf earlier l.session.0 l.request

-- where the configuration is wanted, a line is a configuration that keeps its rules, and nowhere else
abbrev pub Known : ℕ → Bool → List EarlierLine → ReadLine → Type 0
Known number true earlier (reads.Config config) = is_valid config ≡ true
Known number true earlier reads.Blank = ⊥
Known number true earlier (reads.Request l) = ⊥
Known number false earlier (reads.Config config) = ⊥
Known number false earlier reads.Blank = Unit {0}
Known number false earlier (reads.Request l) = IsRequestLine number earlier l

-- every line that is read is known so
abbrev pub ReadLinesAreKnown : Type 0
ReadLinesAreKnown = (line : List ℕ) (number : ℕ) (wants : Bool) (earlier : List EarlierLine) (made : Made) (read : ReadLine)
    → request_of line number wants earlier made ≡ Ok read → Known number wants earlier read
