use Rattle.hier_closure.specs.Inner.Linked.{AreLinkedIn}
use Rattle.hier_closure.proofs.linked.linked_levels.Given as goal

-- the rows so far
abbrev pub invariant-loop-place : goal.invariant-loop-place
invariant-loop-place l = AreLinkedIn l.bundle l.all
