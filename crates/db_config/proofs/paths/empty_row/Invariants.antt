use Rattle.std.proofs.Common.{◌≡◌, false, map}
use Rattle.std.specs.List.{range_with_len}
use Rattle.db_config.proofs.paths.empty_row.Given as goal

-- the row so far
abbrev pub invariant-loop : goal.invariant-loop
invariant-loop l = l.row ≡ map (λ _. false) (range_with_len 0 l.counter)
