-- Words of contracts and loops beside `specs/Scripts.antt`; no promise of the program rests on them.
use Rattle.std.specs.Prelude.{ℕ, List}
use Rattle.eql_resolve.specs.Made.{Made}
use Rattle.script_runs.specs.Scripts.{AskedLine}

-- a line beside what was made of its query
abbrev pub asked_line : List ℕ → Made → AskedLine
asked_line line made = record { line = line; made = made }
