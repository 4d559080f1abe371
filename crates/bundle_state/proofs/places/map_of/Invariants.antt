use Rattle.std.proofs.Common.{◌≡◌, ℕ, take}
use Rattle.bundle_state.specs.Bundle.{level_of_id}
use Rattle.bundle_state.specs.Inner.Placed.{level_in}
use Rattle.bundle_state.proofs.places.map_of.Given as goal

abbrev pub invariant-loop-level : goal.invariant-loop-level
invariant-loop-level l = (q : ℕ) → level_in l.map q ≡ level_of_id (take l.level l.levels) q
