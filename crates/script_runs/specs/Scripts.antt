-- A script: its configuration and its requests, or the limit or the line at fault that ends it.
use Rattle.std.specs.Prelude.{◌≡◌, ℕ, ◌+◌, Bool, true, false, ◌||◌, List, [], ◌∷◌, ◌++◌, length, map, take, drop, All, Option, Some, None, Result, Ok, Err, nat_lt}
use Rattle.emu_names.specs.Count.{RoseBy}
use Rattle.emu_names.specs.declared.limits.TheConstants.{LINE_BYTES, SCRIPT_BYTES, SCRIPT_LINES}
use Rattle.db_config.specs.declared.parts.ConfigParts.{ConfigParts}
use Rattle.live_run.specs.session_core.declared.line.Line.{Line}
use Rattle.script_lines.specs.declared.line_set.EarlierLine.{EarlierLine}
use Rattle.script_lines.specs.declared.faults.LineFault.{LineFault}
use Rattle.script_lines.specs.declared.faults.LineFault.TheVariants as faults
use Rattle.script_lines.specs.declared.faults.ReadLine.{ReadLine}
use Rattle.script_lines.specs.declared.faults.ReadLine.TheVariants as reads
use Rattle.script_lines.specs.Made.{eql_of, IsMadeOf}
use Rattle.eql_resolve.specs.Made.{Made, times_too_large}
use Rattle.script_lines.specs.Lines.{request_of}
use Rattle.script_runs.specs.Cuts.{cut}

-- a line of a script that was read, and what the maker of patterns made of the query that it asks
pub record AskedLine : Type 0 where
  pub line : List ℕ
  pub made : Made

-- the bytes of lines that were read
abbrev pub lines_in : List AskedLine → List (List ℕ)
lines_in lines = map (λ (l : AskedLine). l.line) lines

-- what is beside a line is what the maker made of its query
abbrev pub IsAnswered : AskedLine → Type 0
IsAnswered l = IsMadeOf (eql_of l.line) l.made

-- how many lines have a query of which the maker refused a pattern as too large
abbrev pub too_large_in : List AskedLine → ℕ
too_large_in [] = 0
too_large_in (l ∷ lines) = times_too_large l.made + too_large_in lines

-- these lines of a script were read, by a maker whose refusals were and are so many: what is beside each
-- is what the maker answered, and its refusals rose at least as often as it refused a line's pattern
pub record AreRead (lines : List AskedLine) (script : List (List ℕ)) (before now : ℕ) : Type 0 where
  pub bytes : lines_in lines ≡ script
  pub made : All IsAnswered lines
  pub refused : RoseBy (too_large_in lines) before now

-- what was read of a script: the number of its lines so far, whether it has to give a configuration next, the
-- one that it gave, its requests
pub record Parsed : Type 0 where
  pub number : ℕ
  pub wants : Bool
  pub config : Option ConfigParts
  pub requests : List Line

-- a script before its first line, which gives a configuration where one is wanted
abbrev pub read_from : Bool → Parsed
read_from wants = record { number = 0; wants = wants; config = None; requests = [] }

-- what ends a script early: a line, the number of lines or the script passes its limit, or a line,
-- given by its number, is at fault
pub data Stop : Type 0 where
  limit : Stop
  at_fault : ℕ → LineFault → Stop

-- a line passes its limit, or its number that of the lines
abbrev pub passes_limit : ℕ → List ℕ → Bool
passes_limit number line = nat_lt SCRIPT_LINES number || nat_lt LINE_BYTES (length line)

-- one line more
abbrev pub with_read : Parsed → ReadLine → Parsed
with_read p reads.Blank = record { number = p.number + 1; wants = p.wants; config = p.config; requests = p.requests }
with_read p (reads.Config config) =
    record { number = p.number + 1; wants = false; config = Some config; requests = p.requests }
with_read p (reads.Request l) =
    record { number = p.number + 1; wants = p.wants; config = p.config; requests = p.requests ++ l ∷ [] }

-- a request, as the lines behind it may name it
abbrev pub earlier_line : Line → EarlierLine
earlier_line l = record { line = l.line; session = l.session; command = l.command }

-- these requests
abbrev pub earlier_of : List Line → List EarlierLine
earlier_of requests = map earlier_line requests

-- a line at fault stops the script, by its number
abbrev pub as_stop : ℕ → Result ReadLine LineFault → Result ReadLine Stop
as_stop number (Ok read) = Ok read
as_stop number (Err fault) = Err (at_fault number fault)

-- a line that passes a limit stops the script, whatever it is
abbrev pub unless_over : Bool → Result ReadLine Stop → Result ReadLine Stop
unless_over true read = Err limit
unless_over false read = read

-- the line of a number, behind so many lines and these requests, where the configuration is wanted
-- or not: its limits come first
abbrev pub line_at : ℕ → Bool → List EarlierLine → AskedLine → Result ReadLine Stop
line_at number wants earlier l =
    unless_over (passes_limit number l.line) (as_stop number (request_of l.line number wants earlier l.made))

infixl 10 ◌>>=◌
-- what follows from what was read, or what stopped the script before
abbrev pub ◌>>=◌ : {A B : Type 0} → Result A Stop → (A → Result B Stop) → Result B Stop
(Ok x) >>= f = f x
(Err stop) >>= f = Err stop

-- a line behind what was read
abbrev pub parse_line : Parsed → AskedLine → Result Parsed Stop
parse_line p l =
    line_at (p.number + 1) p.wants (earlier_of p.requests) l >>= λ read. Ok (with_read p read)

-- what is read of these lines behind what was read, or what stops the script first
abbrev pub parse : Parsed → List AskedLine → Result Parsed Stop
parse p [] = Ok p
parse p (line ∷ lines) = parse_line p line >>= λ next. parse next lines

-- what was read before the line that ends a script early, or all of it
abbrev pub front_from : Result Parsed Stop → Parsed → (Parsed → Parsed) → Parsed
front_from (Ok next) p goes_on = goes_on next
front_from (Err stop) p goes_on = p

-- what is read of the lines before the first that stops the script, or of all of them
abbrev pub parsed_front : Parsed → List AskedLine → Parsed
parsed_front p [] = p
parsed_front p (line ∷ lines) = front_from (parse_line p line) p (λ next. parsed_front next lines)

-- a script that ends where a configuration is still wanted is at fault there, in the line that would be next
abbrev pub if_configured : Parsed → Bool → Result Parsed Stop
if_configured p true = Err (at_fault (p.number + 1) faults.ConfigPlace)
if_configured p false = Ok p

-- a script past its limit is stopped by that; else it is what was read of it
abbrev pub ended : Bool → Parsed → Result Parsed Stop
ended true p = Err limit
ended false p = if_configured p p.wants

-- the next line of a script stops it where it passes a limit, whatever the maker makes of it
abbrev pub if_over : Bool → Option (Result Parsed Stop)
if_over true = Some (Err limit)
if_over false = None

-- behind what was read, with these lines to come: the script is at its end, or stopped, or goes on
abbrev pub end_behind : Bool → List (List ℕ) → Parsed → Option (Result Parsed Stop)
end_behind past [] p = Some (ended past p)
end_behind past (line ∷ rest) p = if_over (passes_limit (p.number + 1) line)

-- the same, where what was read may have a line that stops the script
abbrev pub end_from : Bool → List (List ℕ) → Result Parsed Stop → Option (Result Parsed Stop)
end_from past rest (Ok p) = end_behind past rest p
end_from past rest (Err stop) = Some (Err stop)

-- what a script of these lines, which has to give a configuration or not, is, or what ends it first, once the
-- first of them were read; none where it goes on behind those
abbrev pub script_from : Bool → Bool → List (List ℕ) → List AskedLine → Option (Result Parsed Stop)
script_from wants past all lines = end_from past (drop (length lines) all) (parse (read_from wants) lines)

-- whether a script passes its limit of bytes
abbrev pub is_past : List ℕ → Bool
is_past text = nat_lt SCRIPT_BYTES (length text)

-- the lines of the bytes up to that limit
abbrev pub lines_of : List ℕ → List (List ℕ)
lines_of text = cut (is_past text) (take SCRIPT_BYTES text)

-- a script as a whole, once the first of its lines were read: what it is, or what ends it first
abbrev pub script_of : Bool → List ℕ → List AskedLine → Option (Result Parsed Stop)
script_of wants text lines = script_from wants (is_past text) (lines_of text) lines

-- what was read before that end
abbrev pub front_of : Bool → List AskedLine → Parsed
front_of wants lines = parsed_front (read_from wants) lines

-- whatever the maker makes of the queries, no line of a script is at fault and no limit is passed
abbrev pub IsSound : Bool → List ℕ → Type 0
IsSound wants text = (lines : List AskedLine) (stop : Stop) →
    lines_in lines ≡ take (length lines) (lines_of text) → All IsAnswered lines →
    script_of wants text lines ≡ Some (Err stop) → ⊥
