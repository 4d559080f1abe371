use Rattle.std.proofs.Common.{◌≡◌, ◌≤◌, length, map, drop}
use Rattle.std.specs.Simd.Lanes.{mask_l}
use Rattle.lane_bits.specs.Inner.Row.{is_between}
use Rattle.lane_bits.proofs.columns.range_rest.Given as goal

abbrev pub invariant-loop-at : goal.invariant-loop-at
invariant-loop-at l = record {
  low : l.from ≤ l.at;
  high : l.at ≤ length l.column;
  same : l.word ≡ mask_l (map (is_between l.low l.high) (drop l.at l.column));
}

abbrev pub decreases-loop-at : goal.decreases-loop-at
decreases-loop-at l = l.at
