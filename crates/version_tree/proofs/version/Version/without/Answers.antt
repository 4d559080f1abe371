use Rattle.std.proofs.Common.{◌≡◌, ◌∙◌, ap}
use Rattle.version_tree.specs.Version.{VersionParts}
use Rattle.version_tree.specs.Inner.Version.{others, next_number}
use Rattle.version_tree.proofs.Versions.{kept_as, kept_without, is_without, state_is_without, version_as}
use Rattle.version_tree.proofs.version.Version.without.Goals as goal

pub invariant_of-result : goal.invariant_of-result
invariant_of-result c =
    kept_without c.args.self.now _ c.args.key.now c.counts_without-counts.result
    (kept_as c.args.self.now _ c.self.inside.counts c.self.view_is c.self.invariant).rules
    c.counts_without-counts.ensures.rising
    (c.in_ok-config.ensures ∙ ap (λ (v : VersionParts). v.config) c.self.view_is)
    (c.in_ok-bundles.ensures ∙ ap (λ (v : VersionParts). others c.args.key.now v.bundles) c.self.view_is)
    c.counts_without-counts.ensures.counts

pub returns-clause-state : goal.returns-clause-state
returns-clause-state c =
    let next : VersionParts = version_as c.in_ok-config.config c.in_ok-bundles.bundles c.saturating_add.result in
    state_is_without c.args.self.now next c.args.key.now
    (is_without c.args.self.now next c.args.key.now
    (c.in_ok-config.ensures ∙ ap (λ (v : VersionParts). v.config) c.self.view_is)
    (c.in_ok-bundles.ensures ∙ ap (λ (v : VersionParts). others c.args.key.now v.bundles) c.self.view_is)
    (c.saturating_add.ensures ∙ ap (λ (v : VersionParts). next_number v.number) c.self.view_is))
