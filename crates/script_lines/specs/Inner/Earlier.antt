-- Words of the contracts of the set of earlier lines; no public clause names them.
use Rattle.std.specs.Prelude.{ℕ, Bool, false, List, map, Option, Some, None}
use Rattle.script_lines.specs.declared.line_set.EarlierLine.{EarlierLine}

-- the numbers of lines
abbrev pub numbers_of : List EarlierLine → List ℕ
numbers_of lines = map (λ it. it.line) lines

-- the line that was found passes a test
abbrev pub passes_any : (EarlierLine → Bool) → Option EarlierLine → Bool
passes_any test None = false
passes_any test (Some it) = test it
