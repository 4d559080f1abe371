use Rattle.std.proofs.Common.{◌≡◌, [], map}
use Rattle.std.specs.List.{range_with_len}
use Rattle.db_config.specs.Inner.Above.{above_row}
use Rattle.db_config.proofs.paths.empty_rows.Given as goal

-- the rows so far
abbrev pub invariant-loop : goal.invariant-loop
invariant-loop l = l.rows ≡ map (λ upper. above_row [] l.count upper) (range_with_len 0 l.counter)
