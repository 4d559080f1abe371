-- What a pattern and its search keep.
use Rattle.std.specs.Prelude.{◌≡◌, ◌<◌, ◌^◌, List, ℕ, get_or, is_some}
use Rattle.regex.specs.Patterns.{Re, default_config, find_str}
use Rattle.regex.specs.Strings.{regex_source, regex_config, IsReadFromSource}
use Rattle.regex.specs.declared.string.regex.Regex.{Regex}
use Rattle.label_match.specs.Pattern.{matches_label, set_text}

-- the regular expression is what is read in the set text
pub record IsOfText (text : List ℕ) (whole : Regex) : Type 0 where
  pub source : regex_source whole ≡ set_text text
  pub config : regex_config whole ≡ default_config
  pub read : IsReadFromSource whole

-- of each label of bytes the search tells whether the text's pattern matches it
pub record Tells (text : List ℕ) (searched : Re) : Type 0 where
  pub each : (label : List ℕ) → ((k : ℕ) → get_or label k 0 < 2 ^ 8) →
      is_some (find_str searched label 0) ≡ matches_label text label
