use Rattle.edit_code.proofs.Exits.{exit_if, level_stops}
use Rattle.std.proofs.Common.{refl}
use Rattle.db_config.specs.Made.{is_level}
use Rattle.edit_rules.specs.declared.acts.ConfigEdit.TheVariants as edits
use Rattle.value_codes.specs.Heads.{level_def_form}
use Rattle.edit_code.specs.Additions.{level_of}
use Rattle.edit_code.specs.Names.{is_addition}
use Rattle.edit_code.proofs.ReadSteps.{given_made}
use Rattle.edit_code.proofs.additions.read_level.Goals as goal

pub returns-in_err-raw : goal.returns-in_err-raw
returns-in_err-raw c = exit_if _ _ _ _ _ _ _ c.from_residual.ensures.1 c.in_err-raw.ensures (λ n e. level_stops c.args.from.now n e)

pub returns : goal.returns
returns c =
    given_made level_def_form edits.AddLevel level_of is_level is_addition (λ a. refl) c.args.from.now c.read.new.from c.in_ok-raw.raw
    c.in_ok-made.made c.in_ok-raw.ensures c.in_ok-made.ensures
