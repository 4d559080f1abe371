use Rattle.std.proofs.Common.{◌≡◌, ◌∷◌, map}
use Rattle.std.specs.List.{range_with_len}
use Rattle.db_config.specs.Inner.Above.{above_row}
use Rattle.db_config.proofs.paths.rows_with.Given as goal

-- the rows so far
abbrev pub invariant-loop-upper : goal.invariant-loop-upper
invariant-loop-upper l = l.made ≡ map (λ upper. above_row (l.def ∷ l.defs) l.count upper) (range_with_len 0 l.upper)
