use Rattle.std.proofs.Common.{◌-◌, length}
use Rattle.lane_bits.proofs.Spans.{AddedTo}
use Rattle.lane_bits.proofs.span.add_singly.Given as goal

-- the bits before have been added
abbrev pub invariant-loop-at : goal.invariant-loop-at
invariant-loop-at l = AddedTo l.by l.bits l.fn.into l.into l.from

abbrev pub decreases-loop-at : goal.decreases-loop-at
decreases-loop-at l = length l.bits - l.from
