use Rattle.std.proofs.Common.{sym, ◌∙◌}
use Rattle.db_config.specs.Made.{is_attribute}
use Rattle.edit_rules.specs.declared.acts.ConfigEdit.TheVariants as edits
use Rattle.edit_code.proofs.ReadSteps.{added_some, added_none}
use Rattle.edit_code.proofs.additions.attribute_made.Goals as goal

pub returns-in-Some : goal.returns-in-Some
returns-in-Some c =
    added_some is_attribute (λ def. edits.AddAttribute c.args.level def) c.args.raw.now c.in-Some.attribute
    (sym c.in-Some.is ∙ c.in_ok-attribute.ensures)

pub returns-in-None : goal.returns-in-None
returns-in-None c =
    added_none is_attribute (λ def. edits.AddAttribute c.args.level def) c.args.raw.now (sym c.in-None.is ∙ c.in_ok-attribute.ensures)
