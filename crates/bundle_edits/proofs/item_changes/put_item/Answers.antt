use Rattle.std.proofs.Common.{ℕ, List, Result, sym, ◌∙◌, ap, subst}
use Rattle.std.specs.List.{slice_get}
use Rattle.emu_names.specs.Inner.Gives.{GivesOrBroken}
use Rattle.emu_names.specs.declared.rules.Broken.{Broken}
use Rattle.emu_names.specs.declared.rules.Broken.TheVariants as rules
use Rattle.db_config.specs.declared.parts.ConfigParts.{ConfigParts}
use Rattle.db_config.specs.Lookups.{level_named}
use Rattle.bundle_state.specs.Bundle.{BundleParts}
use Rattle.bundle_edits.proofs.Lookups.{breaks, put_is, not_put}
use Rattle.bundle_edits.proofs.item_changes.put_item.Goals as goal

pub returns-in-Some : goal.returns-in-Some
returns-in-Some c =
    subst (λ (r : Result BundleParts Broken). GivesOrBroken c.put_on.result r)
    (sym (put_is c.args.is_tested c.args.config.now c.args.counts c.args.level.now c.args.position c.args.item.now c.args.bundle c.in-Some.number c.get-def.result.now
    (ap (λ (n : List ℕ). level_named n c.args.config.now.levels) (sym c.as_str.ensures) ∙ sym c.in-Some.ensures.named)
    (ap (λ (p : ConfigParts). slice_get p.levels c.in-Some.number) (sym c.parts.ensures.parts) ∙ c.get-def.ensures)))
    c.put_on.ensures

pub returns-in-None : goal.returns-in-None
returns-in-None c =
    breaks (rules.NoLevel c.args.level.now) c.no_level.result c.no_level.ensures
    (not_put c.args.is_tested c.args.config.now c.args.counts c.args.level.now c.args.position c.args.item.now c.args.bundle
    (ap (λ (n : List ℕ). level_named n c.args.config.now.levels) (sym c.as_str.ensures) ∙ sym c.in-None.ensures.named))
