use Rattle.std.proofs.Common.{◌≡◌, length}
use Rattle.test_match.proofs.lanes.evens.Given as goal

abbrev pub invariant-loop-at : goal.invariant-loop-at
invariant-loop-at l = length l.column.items ≡ l.at
