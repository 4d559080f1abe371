use Rattle.std.proofs.Common.{◌≡◌, ◌≤◌, ℕ, get_or, length}
use Rattle.lane_bits.proofs.bits.last_set.Given as goal

-- no bit of the words behind is set
abbrev pub invariant-loop-k : goal.invariant-loop-k
invariant-loop-k l = record {
  within : l.k ≤ length l.words;
  clear : (j : ℕ) → l.k ≤ j → get_or l.words j 0 ≡ 0;
}

abbrev pub decreases-loop-k : goal.decreases-loop-k
decreases-loop-k l = l.k
