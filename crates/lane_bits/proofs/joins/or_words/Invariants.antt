use Rattle.std.proofs.Common.{◌*◌}
use Rattle.std.specs.Int.Bits.{bit_or}
use Rattle.lane_bits.specs.Inner.Words.{JoinedIn}
use Rattle.lane_bits.proofs.joins.or_words.Given as goal

abbrev pub invariant-loop-block : goal.invariant-loop-block
invariant-loop-block l = JoinedIn bit_or l.fn.into l.other l.into 0 (8 * l.block)
