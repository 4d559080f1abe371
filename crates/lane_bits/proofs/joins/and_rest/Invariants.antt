use Rattle.std.specs.Int.Bits.{bit_and}
use Rattle.lane_bits.specs.Inner.Words.{JoinedIn}
use Rattle.lane_bits.proofs.joins.and_rest.Given as goal

abbrev pub invariant-loop-at : goal.invariant-loop-at
invariant-loop-at l = JoinedIn bit_and l.fn.into l.other l.into l.from l.at
