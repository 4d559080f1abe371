-- A request that was answered.
use Rattle.std.specs.Prelude.{◌≡◌, ℕ, ◌+◌, [], ◌∷◌, ◌++◌, List}
use Rattle.live_run.specs.session_core.declared.line.Line.{Line}
use Rattle.live_run.specs.session_core.declared.line.Reply.{Reply}
use Rattle.session_run.specs.Inner.Orders.{Answers}
use Rattle.script_runs.specs.declared.running.Running.{Running}
use Rattle.script_runs.specs.Scripts.{earlier_line}

-- the run answers the line in turn, and the line is counted and its number kept
pub record TakesLine {D : Type 0} (may_leave : D → List ℕ → Type 0) (moment : D → ℕ)
    (left_since : D → ℕ → List ℕ → Type 0) (faults : D → ℕ) (old : Running D) (l : Line) (reply : Reply)
    (new : Running D) : Type 0 where
  pub answers : Answers may_leave moment left_since faults old.core l reply new.core
  pub earlier : new.earlier ≡ old.earlier ++ earlier_line l ∷ []
  pub number : new.number ≡ old.number + 1
