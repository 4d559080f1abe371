use Rattle.std.proofs.Common.{length}
use Rattle.edit_undo.proofs.InTurn.{IsTurn}
use Rattle.edit_undo.proofs.turns.in_turn.Given as goal

-- what takes the edits that are left back stands before what was made
abbrev pub invariant-loop-rest : goal.invariant-loop-rest
invariant-loop-rest l = IsTurn l.config l.fn.bundle l.edits l.next l.made l.rest

abbrev pub decreases-loop-rest : goal.decreases-loop-rest
decreases-loop-rest l = length l.rest
