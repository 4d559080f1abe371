use Rattle.std.proofs.Common.{◌≡◌, drop}
use Rattle.bundle_state.specs.Made.{items_named}
use Rattle.bundle_state.proofs.given_levels.items_named.Given as goal

abbrev pub invariant-loop-level : goal.invariant-loop-level
invariant-loop-level l = items_named l.def.name (drop l.level-index l.levels) ≡ items_named l.def.name l.fn.levels
