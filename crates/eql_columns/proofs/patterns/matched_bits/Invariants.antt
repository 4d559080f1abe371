use Rattle.eql_columns.proofs.Tests.{Answered}
use Rattle.eql_columns.proofs.patterns.matched_bits.Given as goal

-- the pattern is the same, what is noted is right, and the bits so far are the answers
abbrev pub invariant-loop-at : goal.invariant-loop-at
invariant-loop-at l = Answered l.fn.matcher l.column l.attribute l.items l.matcher l.answers l.row l.at
