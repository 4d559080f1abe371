-- Words of contracts and loops beside `specs/Above.antt`; no promise of the program rests on them.
use Rattle.std.specs.Prelude.{ℕ, Bool, List, map}
use Rattle.std.specs.List.{range_with_len}
use Rattle.db_config.specs.declared.parts.LinkDef.{LinkDef}
use Rattle.db_config.specs.Above.{is_above}

-- the levels below a level, one answer for each of `count` levels
abbrev pub above_row : List LinkDef → ℕ → ℕ → List Bool
above_row defs count upper = map (λ lower. is_above defs upper lower) (range_with_len 0 count)

-- one such row for each of `count` levels
abbrev pub above_rows : List LinkDef → ℕ → List (List Bool)
above_rows defs count = map (λ upper. above_row defs count upper) (range_with_len 0 count)
