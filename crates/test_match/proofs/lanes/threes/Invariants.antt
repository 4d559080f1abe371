use Rattle.std.proofs.Common.{◌≡◌, length}
use Rattle.test_match.proofs.lanes.threes.Given as goal

abbrev pub invariant-loop-at : goal.invariant-loop-at
invariant-loop-at l = length l.row ≡ l.len
