use Rattle.std.proofs.Common.{◌≡◌, take}
use Rattle.bundle_state.specs.Fitted.{fitted_levels}
use Rattle.bundle_state.proofs.fitted.fitted_levels.Given as goal

-- the levels of the definitions so far
abbrev pub invariant-loop-number : goal.invariant-loop-number
invariant-loop-number l = l.made ≡ fitted_levels (take l.number l.defs) l.levels
