-- For each key some edits were passed over, and those that are still to be read are the rest.
use Rattle.std.proofs.Common.{◌-◌}
use Rattle.edit_code.proofs.ListSteps.{Passes}
use Rattle.edit_code.proofs.lists.skip_edits.Given as goal

abbrev pub invariant-loop-place : goal.invariant-loop-place
invariant-loop-place l = Passes l.count (l.count - l._place) l.from l.fn.from
