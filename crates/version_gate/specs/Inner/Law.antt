-- What always holds of the published list, and what the step that adds to it tells.
use Rattle.std.specs.Prelude.{◌≡◌, ◌==◌, ℕ, ◌+◌, true, List, [], ◌∷◌, ◌++◌, length, MatchBool}
use Rattle.logbook.specs.Pages.{Book, Cell, Named, Step, View}
use Rattle.version_gate.specs.declared.entry.Entry.{Entry}
use Rattle.version_gate.specs.Lists.{Rises}

-- The one word counts the publishes, each of which added one entry behind the opening; the numbers
-- rise by one
pub record IsKept {T : Type 0} (cells : List Cell) (log : List (Entry T)) : Type 0 where
  pub published : ℕ
  pub first : ℕ
  pub word : cells ≡ (published, true) ∷ []
  pub counted : length log ≡ published + 1
  pub rises : Rises first log

-- the word of a gate
abbrev pub word_of : Book → Named
word_of gate = record { tracked = true; key = 0; book = gate }

-- where the word was as expected, the entry was put behind all that had been seen
abbrev pub Adds : {T : Type 0} → Step (Entry T) → View (Entry T) ℕ → ℕ → View (Entry T) ℕ → Type 0
Adds s v found w = MatchBool (found == s.old) (w.0 ≡ v.0 ++ s.ask ∷ []) (Unit {0})
