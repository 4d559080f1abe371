use Rattle.std.proofs.Common.{◌-◌, ◌≤◌, length}
use Rattle.requery.proofs.RowEnds.{AreWidenedTo}
use Rattle.requery.proofs.ends.widen_by.Given as goal

-- the stretches of the items before the place are widened
abbrev pub invariant-loop-place : goal.invariant-loop-place
invariant-loop-place l = record {
  within : l.from ≤ length l.row;
  so_far : AreWidenedTo l.row l.at l.from l.fn.stretches l.stretches;
}

abbrev pub decreases-loop-place : goal.decreases-loop-place
decreases-loop-place l = length l.row - l.from
