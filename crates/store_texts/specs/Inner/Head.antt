-- How the program makes the line of a segment list.
use Rattle.std.specs.Prelude.{ℕ, List, ◌++◌, codes, decimal}

-- what stands before the rows of a segment list
abbrev pub head_text : ℕ → List ℕ
head_text n = codes "{\"n\":" ++ (decimal n ++ codes ",\"segments\":")
