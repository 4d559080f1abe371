use Rattle.std.proofs.Common.{◌≡◌, ◌<◌, ℕ, get_or}
use Rattle.lane_bits.proofs.bits.first_set.Given as goal

-- no bit of the words before is set
abbrev pub invariant-loop-k : goal.invariant-loop-k
invariant-loop-k l = (j : ℕ) → j < l.k → get_or l.words j 0 ≡ 0
