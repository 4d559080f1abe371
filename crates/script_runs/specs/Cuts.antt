-- How a script is cut into lines, as far as it was read.
use Rattle.std.specs.Prelude.{ℕ, Bool, true, false, List, [], ◌∷◌, ◌==◌, if◌then◌else◌}

-- a byte before the lines that follow it; where the script goes on past what was read, a last line
-- without its line feed is left out
abbrev pub put_front : Bool → ℕ → List (List ℕ) → List (List ℕ)
put_front past b (line ∷ lines) = (b ∷ line) ∷ lines
put_front false b [] = (b ∷ []) ∷ []
put_front true b [] = []

-- the lines of bytes: they end at line feeds, and a last line without one counts where it is not empty
abbrev pub cut : Bool → List ℕ → List (List ℕ)
cut past [] = []
cut past (b ∷ bs) = if b == 10 then [] ∷ cut past bs else put_front past b (cut past bs)
