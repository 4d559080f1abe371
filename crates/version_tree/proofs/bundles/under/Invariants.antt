use Rattle.std.proofs.Common.{◌≡◌, take}
use Rattle.version_tree.specs.Version.{bundles_of}
use Rattle.version_tree.specs.Inner.Under.{fitted_of}
use Rattle.version_tree.proofs.bundles.under.Given as goal

-- the bundles so far are made to fit
abbrev pub invariant-bundles : goal.invariant-bundles
invariant-bundles l = bundles_of l.made ≡ fitted_of l.config (take l.indexed-index l.bundles)
