use Rattle.std.proofs.Common.{◌≡◌, map, take}
use Rattle.bundle_state.specs.Fitted.{fitted}
use Rattle.edit_rules.proofs.database.fitted.Given as goal

-- the bundles so far are made to fit
abbrev pub invariant-loop-bundle : goal.invariant-loop-bundle
invariant-loop-bundle l = l.made ≡ map (fitted l.config) (take l.bundle-index l.bundles)
