use Rattle.eql_match.specs.Inner.Reach.{ReachesTo}
use Rattle.eql_match.proofs.reach.reach.Given as goal

-- the reach of the rows so far
abbrev pub invariant-loop-row : goal.invariant-loop-row
invariant-loop-row l = ReachesTo l.rows l.fn.upper.first l.row l.reach
