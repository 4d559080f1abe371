use Rattle.std.proofs.Common.{◌≡◌, ◌∙◌, ap, sym, subst}
use Rattle.db_config.specs.declared.parts.ConfigParts.{ConfigParts}
use Rattle.db_config.specs.Extends.{Extends}
use Rattle.version_tree.specs.Version.{VersionParts, bundles_of}
use Rattle.version_tree.specs.Inner.Under.{fitted_of}
use Rattle.version_tree.specs.Inner.Version.{next_number}
use Rattle.version_tree.proofs.Fitting.{all_can_fit, kept_under, state_under, is_under}
use Rattle.version_tree.proofs.Versions.{kept_as, version_as}
use Rattle.version_tree.proofs.version.Version.with_config.Goals as goal

pub under-requires : goal.under-requires
under-requires c =
    all_can_fit c.args.self.now _ c.args.config c.self.view_is c.len-count.ensures.rules c.requires

pub invariant_of-result : goal.invariant_of-result
invariant_of-result c =
    let next : VersionParts = version_as c.in_ok-config.config c.in_ok-bundles.bundles c.saturating_add.result in
    let more : Extends c.args.self.now.config next.config = subst (Extends c.args.self.now.config) (sym c.in_ok-config.ensures) c.requires in
    let fits : bundles_of next.bundles ≡ fitted_of next.config c.args.self.now.bundles =
    c.in_ok-bundles.ensures ∙ ap (λ (v : VersionParts). fitted_of c.args.config v.bundles) c.self.view_is
    ∙ ap (λ (k : ConfigParts). fitted_of k c.args.self.now.bundles) (sym c.in_ok-config.ensures) in
    kept_under c.args.self.now next c.self.inside.counts (kept_as c.args.self.now _ c.self.inside.counts c.self.view_is c.self.invariant) more fits

pub returns-clause-state : goal.returns-clause-state
returns-clause-state c =
    let next : VersionParts = version_as c.in_ok-config.config c.in_ok-bundles.bundles c.saturating_add.result in
    state_under c.args.self.now next c.args.config c.in_ok-config.ensures
    (c.in_ok-bundles.ensures ∙ ap (λ (v : VersionParts). fitted_of c.args.config v.bundles) c.self.view_is)

pub returns-clause-version : goal.returns-clause-version
returns-clause-version c =
    let next : VersionParts = version_as c.in_ok-config.config c.in_ok-bundles.bundles c.saturating_add.result in
    is_under c.args.self.now next c.args.config c.in_ok-config.ensures
    (c.in_ok-bundles.ensures ∙ ap (λ (v : VersionParts). fitted_of c.args.config v.bundles) c.self.view_is)
    (c.saturating_add.ensures ∙ ap (λ (v : VersionParts). next_number v.number) c.self.view_is)
