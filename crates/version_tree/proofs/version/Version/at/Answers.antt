use Rattle.std.proofs.Common.{◌≡◌, ◌∙◌, ap, sym, slice_get}
use Rattle.version_tree.specs.Version.{VersionParts}
use Rattle.version_tree.proofs.Versions.{kept_as, fits_at}
use Rattle.version_tree.proofs.version.Version.at.Goals as goal

pub returns-clause-fits : goal.returns-clause-fits
returns-clause-fits c =
    fits_at c.args.self.now c.args.place c.at.result.now
    (kept_as c.args.self.now _ c.self.inside.counts c.self.view_is c.self.invariant).rules
    (ap (λ (v : VersionParts). slice_get v.bundles c.args.place) (sym c.self.view_is) ∙ c.at.ensures)
