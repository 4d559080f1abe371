-- The lines of the script of work as they are handed to the run.
use Rattle.std.specs.Prelude.{◌≡◌, ℕ, suc, ◌+◌, List, [], ◌∷◌, ◌++◌, length, None, Ok}
use Rattle.eql_resolve.specs.Prepared.{PreparedParts}
use Rattle.eql_resolve.specs.Made.{IsPreparedFrom}
use Rattle.live_run.specs.session_core.declared.line.Ask.{Ask}
use Rattle.live_run.specs.session_core.declared.line.Command.TheVariants as commands
use Rattle.live_run.specs.session_core.declared.line.Line.{Line}
use Rattle.live_run.specs.session_core.declared.line.Request.TheVariants as requests
use Rattle.work_script.specs.Script.{each, work_queries}
use Rattle.work_script.specs.Inner.Script.{adding, waits}

-- the line of this number asks the query of a text, by session 1
pub record IsAsking (line : ℕ) (text : List ℕ) (l : Line) : Type 0 where
  pub number : l.line ≡ line
  pub session : l.session.0 ≡ 1
  pub command : l.command ≡ commands.Query
  pub ask : Ask
  pub request : l.request ≡ requests.Query ask
  pub prepared : PreparedParts
  pub is_prepared : ask.prepared ≡ Ok prepared
  pub query : IsPreparedFrom text prepared
  pub untimed : ask.time ≡ None
  pub own : ask.requery ≡ None

-- lines from this one on ask the queries of these texts
abbrev pub AreAsking : ℕ → List (List ℕ) → List Line → Type 0
AreAsking line [] [] = Unit {0}
AreAsking line [] (l ∷ ls) = ⊥
AreAsking line (text ∷ texts) [] = ⊥
AreAsking line (text ∷ texts) (l ∷ ls) = IsAsking line text l × AreAsking (suc line) texts ls

-- the lines of the script: the additions, the waits, the queries
pub record IsScript (number count : ℕ) (lines : List Line) : Type 0 where
  pub asks : List Line
  pub whole : lines ≡ (each (adding number) count ++ waits count) ++ asks
  pub asking : AreAsking (length (each (adding number) count ++ waits count) + 2) work_queries asks
