-- Texts, by their bytes.
use Rattle.std.specs.Prelude.{ℕ, Bool, List, nat_eq}
use Rattle.std.specs.Cmp.Lexicographic.{pointwise}

-- two texts are the same bytes
abbrev pub same_text : List ℕ → List ℕ → Bool
same_text = pointwise nat_eq
