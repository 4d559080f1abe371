use Rattle.std.proofs.Common.{◌≡◌, drop}
use Rattle.bundle_state.specs.Lookups.{has_attribute}
use Rattle.bundle_state.proofs.annot_rules.has_attribute.Given as goal

abbrev pub invariant-loop-def : goal.invariant-loop-def
invariant-loop-def l = has_attribute (drop l.def-index l.defs) l.name ≡ has_attribute l.defs l.name
