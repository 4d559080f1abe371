use Rattle.std.proofs.Common.{◌≡◌, ◌*◌, map, take}
use Rattle.std.specs.Simd.Lanes.{sum_l}
use Rattle.std.specs.Int.RustNames.{count_ones}
use Rattle.lane_bits.proofs.bits.count_words.Given as goal

abbrev pub invariant-loop-block : goal.invariant-loop-block
invariant-loop-block l = l.count ≡ sum_l (map count_ones (take (8 * l.block) l.words))
