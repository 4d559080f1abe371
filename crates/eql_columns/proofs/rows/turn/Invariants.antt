use Rattle.eql_columns.proofs.Bits.{TurnedTo}
use Rattle.eql_columns.proofs.rows.turn.Given as goal

-- the bits so far are turned
abbrev pub invariant-loop-at : goal.invariant-loop-at
invariant-loop-at l = TurnedTo l.fn.row l.row l.at
