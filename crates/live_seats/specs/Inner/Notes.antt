-- Numbers that are noted for lines, each once, and that other threads hear.
use Rattle.std.specs.Prelude.{◌≡◌, ℕ, List, Option, Some, None}
use Rattle.query_workers.specs.session_core.declared.line.Request.{Request}
use Rattle.query_workers.specs.session_core.declared.line.Request.TheVariants as requests
use Rattle.query_workers.specs.session_core.Steps.{slot}

-- what was noted for a line
pub record Note : Type 0 where
  pub line : ℕ
  pub noted : ℕ

-- this number for this line
abbrev pub note : ℕ → ℕ → Note
note line noted = record { line = line; noted = noted }

-- the number that was noted
abbrev pub noted_of : Note → ℕ
noted_of n = n.noted

-- what was heard is of the line that the request, an `after`, names
abbrev pub IsHeardFor : Request → Option Note → Type 0
IsHeardFor request None = Unit {0}
IsHeardFor request (Some heard) = request ≡ requests.After heard.line

-- a table of the numbers that were noted tells this note
abbrev pub IsTold : List (Option ℕ) → Note → Type 0
IsTold table n = slot table n.line ≡ Some n.noted

-- a number of a table, or 0
abbrev pub number_or_none : Option ℕ → ℕ
number_or_none None = 0
number_or_none (Some n) = n

-- the number of a table for a line, or 0
abbrev pub noted_in : List (Option ℕ) → ℕ → ℕ
noted_in table line = number_or_none (slot table line)
