-- A table of what all lanes noted for lines.
use Rattle.std.specs.Prelude.{◌≡◌, ℕ, suc, List, [], ◌∷◌, length, Option, None, Some}
use Rattle.query_workers.specs.session_core.declared.line.Request.TheVariants as requests
use Rattle.live_laws.specs.Lanes.{Step}
use Rattle.live_seats.specs.Inner.Notes.{IsTold, Note, note}

-- each note stands at the place of its line, from this place on
abbrev pub AreInPlace : ℕ → List (Option Note) → Type 0
AreInPlace k [] = Unit {0}
AreInPlace k (None ∷ more) = AreInPlace (suc k) more
AreInPlace k (Some n ∷ more) = (n.line ≡ k) × AreInPlace (suc k) more

-- a table has as many places as before, and goes on to tell what it told
pub record KeepsTelling (old new : List (Option ℕ)) : Type 0 where
  pub places : length new ≡ length old
  pub still : (n : Note) → IsTold old n → IsTold new n

-- a table tells what was noted for the line of a step, and what was heard of the line that it names
pub record TellsStep (table : List (Option ℕ)) (st : Step) : Type 0 where
  pub noted : IsTold table (note st.turn.line.line st.noted)
  pub heard : (earlier high : ℕ) → st.turn.line.request ≡ requests.After earlier → st.heard ≡ Some high
      → IsTold table (note earlier high)
