use Rattle.requery.specs.Inner.Ways.{AreWidenedBy}
use Rattle.requery.proofs.ends.widen_above.Given as goal

-- the stretches are widened by the rows so far
abbrev pub invariant-loop-at : goal.invariant-loop-at
invariant-loop-at l = AreWidenedBy l.up l.at l.fn.stretches l.stretches
