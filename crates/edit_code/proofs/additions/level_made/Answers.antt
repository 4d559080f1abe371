use Rattle.std.proofs.Common.{sym, ◌∙◌}
use Rattle.db_config.specs.Made.{is_level}
use Rattle.edit_rules.specs.declared.acts.ConfigEdit.TheVariants as edits
use Rattle.edit_code.proofs.ReadSteps.{added_some, added_none}
use Rattle.edit_code.proofs.additions.level_made.Goals as goal

pub returns-in-Some : goal.returns-in-Some
returns-in-Some c = added_some is_level edits.AddLevel c.args.raw.now c.in-Some.level (sym c.in-Some.is ∙ c.in_ok-level.ensures)

pub returns-in-None : goal.returns-in-None
returns-in-None c = added_none is_level edits.AddLevel c.args.raw.now (sym c.in-None.is ∙ c.in_ok-level.ensures)
