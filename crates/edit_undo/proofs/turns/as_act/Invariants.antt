use Rattle.std.proofs.Common.{length}
use Rattle.edit_undo.proofs.InTurn.{IsMade}
use Rattle.edit_undo.proofs.turns.as_act.Given as goal

-- the edits so far, and those that are left in the reverse order, are all of them
abbrev pub invariant-loop-left : goal.invariant-loop-left
invariant-loop-left l = IsMade l.fn.made l.edits l.left

abbrev pub decreases-loop-left : goal.decreases-loop-left
decreases-loop-left l = length l.left
