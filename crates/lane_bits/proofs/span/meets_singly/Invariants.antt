use Rattle.std.proofs.Common.{◌-◌, ◌≤◌, length}
use Rattle.lane_bits.proofs.Spans.{MeetsNone}
use Rattle.lane_bits.proofs.span.meets_singly.Given as goal

-- no bit before is set in both
abbrev pub invariant-loop-at : goal.invariant-loop-at
invariant-loop-at l = (l.from ≤ length l.bits) × MeetsNone l.by l.bits l.other l.from

abbrev pub decreases-loop-at : goal.decreases-loop-at
decreases-loop-at l = length l.bits - l.from
