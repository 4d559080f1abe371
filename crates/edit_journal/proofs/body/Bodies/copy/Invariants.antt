use Rattle.std.proofs.Common.{◌≡◌, take}
use Rattle.edit_journal.proofs.body.Bodies.copy.Given as goal

abbrev pub invariant-loop-body : goal.invariant-loop-body
invariant-loop-body l = l.bodies ≡ take l.body-index l.self
