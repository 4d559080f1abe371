use Rattle.hier_closure.proofs.Places.{AreStandsTo}
use Rattle.hier_closure.proofs.stands.stands_in.Given as goal

-- the places of the levels so far
abbrev pub invariant-loop-level : goal.invariant-loop-level
invariant-loop-level l = AreStandsTo l.bundle l.level l.all
