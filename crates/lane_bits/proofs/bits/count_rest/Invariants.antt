use Rattle.std.proofs.Common.{◌≡◌, ◌-◌, ◌*◌, ◌≤◌, length, map, drop}
use Rattle.std.specs.Simd.Lanes.{sum_l}
use Rattle.std.specs.Int.RustNames.{count_ones}
use Rattle.lane_bits.proofs.bits.count_rest.Given as goal

abbrev pub invariant-loop-at : goal.invariant-loop-at
invariant-loop-at l = record {
  low : l.from ≤ l.at;
  high : l.at ≤ length l.words;
  same : l.count ≡ sum_l (map count_ones (drop l.at l.words));
  few : l.count ≤ 64 * (length l.words - l.at);
}

abbrev pub decreases-loop-at : goal.decreases-loop-at
decreases-loop-at l = l.at
