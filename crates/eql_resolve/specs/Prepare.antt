-- What preparing the text of a query answers.
use Rattle.std.specs.Prelude.{◌≡◌, ℕ, ◌<◌, Bool, true, not, List, length, take}
use Rattle.std.specs.List.{list_all}
use Rattle.label_match.specs.Pattern.{are_patterns}

-- the text is no pattern of labels
abbrev pub is_no_pattern : List ℕ → Bool
is_no_pattern text = not (are_patterns text)

-- the pattern of this number is there, and those before it are patterns
pub record IsReached (k : ℕ) (patterns : List (List ℕ)) : Type 0 where
  pub there : k < length patterns
  pub before : list_all are_patterns (take k patterns) ≡ true
