use Rattle.eql_model.specs.Inner.Ends.{AreEnds, is_under_some}
use Rattle.eql_model.proofs.ends.ends_under.Given as goal

-- the ends of the rows so far
abbrev pub invariant-loop-row : goal.invariant-loop-row
invariant-loop-row l = AreEnds (is_under_some l.rows l.fn.upper.first l.row) l.found
