use Rattle.std.proofs.Common.{◌≡◌, ◌∙◌, ap}
use Rattle.version_tree.specs.Version.{VersionParts}
use Rattle.version_tree.specs.Inner.Version.{put_indexed, next_number}
use Rattle.version_tree.proofs.Versions.{kept_as, kept_with, is_with, state_is_with, version_as}
use Rattle.version_tree.proofs.version.Version.with.Goals as goal

pub invariant_of-result : goal.invariant_of-result
invariant_of-result c =
    kept_with c.args.self.now _ c.args.indexed c.counts_with-counts.result
    (kept_as c.args.self.now _ c.self.inside.counts c.self.view_is c.self.invariant).rules
    c.counts_with-counts.ensures.rising (record { rules = c.counts_with-counts.ensures.rules; fits = c.requires.fits }) c.requires.room
    (c.in_ok-config.ensures ∙ ap (λ (v : VersionParts). v.config) c.self.view_is)
    (c.in_ok-bundles.ensures ∙ ap (λ (v : VersionParts). put_indexed c.args.indexed v.bundles) c.self.view_is)
    c.counts_with-counts.ensures.counts

pub returns-clause-state : goal.returns-clause-state
returns-clause-state c =
    let next : VersionParts = version_as c.in_ok-config.config c.in_ok-bundles.bundles c.saturating_add.result in
    state_is_with c.args.self.now next c.args.indexed
    (is_with c.args.self.now next c.args.indexed
    (c.in_ok-config.ensures ∙ ap (λ (v : VersionParts). v.config) c.self.view_is)
    (c.in_ok-bundles.ensures ∙ ap (λ (v : VersionParts). put_indexed c.args.indexed v.bundles) c.self.view_is)
    (c.saturating_add.ensures ∙ ap (λ (v : VersionParts). next_number v.number) c.self.view_is))
