use Rattle.std.proofs.Common.{refl}
use Rattle.edit_rules.specs.declared.acts.Act.TheVariants as acts
use Rattle.edit_code.specs.Additions.{addition_form}
use Rattle.edit_code.specs.Edits.{config_of}
use Rattle.edit_code.specs.Names.{is_act, is_addition}
use Rattle.edit_code.proofs.ReadSteps.{made_some, made_none, made_exit}
use Rattle.edit_code.proofs.entries.read_config.Goals as goal

pub returns-in_err-edit : goal.returns-in_err-edit
returns-in_err-edit c = made_exit addition_form acts.Config config_of is_addition is_act (λ a. refl) _ _ _ _ c.from_residual.ensures.1 c.in_err-edit.ensures

pub returns-in-Some : goal.returns-in-Some
returns-in-Some c = made_some addition_form acts.Config config_of is_addition is_act (λ a. refl) c.args.from.now c.read_addition.new.from _ c.in-Some.edit c.in_ok-edit.ensures c.in-Some.is

pub returns-in-None : goal.returns-in-None
returns-in-None c = made_none addition_form acts.Config config_of is_addition is_act (λ a. refl) c.args.from.now c.read_addition.new.from _ c.in_ok-edit.ensures c.in-None.is
