use Rattle.std.proofs.Common.{◌≡◌, ◌∙◌, ap, Option, option_map, option_copied}
use Rattle.bundle_index.specs.Index.{IndexParts}
use Rattle.version_tree.specs.Version.{VersionParts}
use Rattle.version_tree.specs.Inner.Version.{indexed_with}
use Rattle.version_tree.proofs.States.{state_found}
use Rattle.version_tree.proofs.Versions.{kept_as, fits_found}
use Rattle.version_tree.proofs.version.Version.get.Goals as goal

pub returns-clause-state : goal.returns-clause-state
returns-clause-state c =
    ap (option_map (λ (x : IndexParts). x.bundle))
    (c.get.ensures.bundle ∙ ap (λ (v : VersionParts). indexed_with c.args.key.now v.bundles) c.self.view_is)
    ∙ state_found c.args.key.now c.args.self.now.bundles

pub returns-clause-fits : goal.returns-clause-fits
returns-clause-fits c =
    fits_found c.args.self.now c.args.key.now _
    (kept_as c.args.self.now _ c.self.inside.counts c.self.view_is c.self.invariant).rules
    (c.get.ensures.bundle ∙ ap (λ (v : VersionParts). indexed_with c.args.key.now v.bundles) c.self.view_is)
