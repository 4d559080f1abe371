-- Words of contracts and loops beside `specs/Quoted.antt`; no promise of the program rests on them.
use Rattle.std.specs.Prelude.{ℕ, ◌==◌, not, Bool, List}
use Rattle.std.specs.List.{prefix_len}

-- the byte is no quote
abbrev pub is_unquoted : ℕ → Bool
is_unquoted b = not (b == 34)

-- how many bytes stand before the next quote
abbrev pub quoted_len : List ℕ → ℕ
quoted_len bs = prefix_len is_unquoted bs
