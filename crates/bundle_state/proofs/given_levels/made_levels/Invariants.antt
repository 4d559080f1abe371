use Rattle.std.proofs.Common.{◌≡◌, map, take}
use Rattle.bundle_state.specs.Made.{made_level}
use Rattle.bundle_state.proofs.given_levels.made_levels.Given as goal

abbrev pub invariant-loop-def : goal.invariant-loop-def
invariant-loop-def l = l.made ≡ map (made_level l.levels) (take l.def-index l.defs)
