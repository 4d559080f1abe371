use Rattle.std.proofs.Common.{◌≡◌, drop}
use Rattle.bundle_state.specs.Bundle.{level_from, level_of_id}
use Rattle.bundle_state.proofs.places.level_with.Given as goal

-- what is left is asked for the same
abbrev pub invariant-loop-level : goal.invariant-loop-level
invariant-loop-level l = level_from l.level l.id.0 (drop l.level l.levels) ≡ level_of_id l.levels l.id.0
