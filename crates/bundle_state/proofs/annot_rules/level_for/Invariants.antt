use Rattle.std.proofs.Common.{◌≡◌, drop}
use Rattle.bundle_state.specs.Lookups.{level_for}
use Rattle.bundle_state.proofs.annot_rules.level_for.Given as goal

abbrev pub invariant-loop-def : goal.invariant-loop-def
invariant-loop-def l = level_for l.name (drop l.def-index l.defs) ≡ level_for l.name l.fn.defs
