use Rattle.std.proofs.Common.{◌≡◌, ◌∷◌, map}
use Rattle.std.specs.List.{range_with_len}
use Rattle.db_config.specs.Above.{is_above}
use Rattle.db_config.proofs.paths.row_with.Given as goal

-- the row so far
abbrev pub invariant-loop-lower : goal.invariant-loop-lower
invariant-loop-lower l = l.row ≡ map (λ lower. is_above (l.def ∷ l.defs) l.upper lower) (range_with_len 0 l.lower)
