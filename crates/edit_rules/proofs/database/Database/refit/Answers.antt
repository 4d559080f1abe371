use Rattle.std.proofs.Common.{◌∙◌, ap, subst}
use Rattle.edit_rules.specs.Database.{DatabaseParts}
use Rattle.edit_rules.specs.Inner.Kept.{IsKept}
use Rattle.edit_rules.proofs.Fits.{refitted}
use Rattle.edit_rules.proofs.database.Database.refit.Goals as goal

pub invariant_of-self : goal.invariant_of-self
invariant_of-self c =
    refitted c.args.self.now c.args.config c.in_ok-config.config c.as_slice.result.now c.in_ok-list-2.list c.self.inside.items
    (subst (λ (d : DatabaseParts). IsKept d c.self.inside.items) c.self.view_is c.self.invariant) c.requires.extends c.requires.valid
    c.in_ok-config.ensures (c.as_slice.ensures ∙ c.as_ref.ensures ∙ ap (λ (d : DatabaseParts). d.bundles) c.self.view_is)
    (c.in_ok-list-2.ensures ∙ c.in_ok-list.ensures)
