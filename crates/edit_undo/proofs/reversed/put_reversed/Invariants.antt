use Rattle.std.proofs.Common.{◌≡◌, ◌++◌, reverse, length}
use Rattle.edit_undo.proofs.reversed.put_reversed.Given as goal

-- the edits so far, and those that are left in the reverse order, are all of them
abbrev pub invariant-loop-rest : goal.invariant-loop-rest
invariant-loop-rest l = l.made ++ reverse l.rest ≡ l.initial.made ++ reverse l.fn.group

abbrev pub decreases-loop-rest : goal.decreases-loop-rest
decreases-loop-rest l = length l.rest
