-- Texts between quotes, in which two quotes stand for one. (Praat manual, "TextGrid file formats".)
use Rattle.std.specs.Prelude.{ℕ, ◌+◌, ◌==◌, Bool, true, false, List, [], ◌∷◌, ◌++◌, if◌then◌else◌, Option, Some, None}

-- more text in front, which takes so many bytes more
abbrev pub longer : List ℕ → ℕ → Option (List ℕ × ℕ) → Option (List ℕ × ℕ)
longer text len None = None
longer text len (Some found) = Some (text ++ found.0, len + found.1)

-- The text that stands behind its first quote, and how many bytes it takes there with its last one;
-- none where it does not end. Behind a quote that may be the last one, a second quote makes of the two
-- one quote of the text.
abbrev pub quoted : List ℕ → Bool → Option (List ℕ × ℕ)
quoted [] false = None
quoted [] true = Some ([], 0)
quoted (b ∷ bs) false = if b == 34 then longer [] 1 (quoted bs true) else longer (b ∷ []) 1 (quoted bs false)
quoted (b ∷ bs) true = if b == 34 then longer (34 ∷ []) 1 (quoted bs false) else Some ([], 0)
