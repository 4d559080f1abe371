use Rattle.std.proofs.Common.{refl}
use Rattle.edit_rules.specs.declared.acts.Act.TheVariants as acts
use Rattle.value_codes.specs.Names.{is_key}
use Rattle.edit_code.specs.Edits.{edits_of, first_key, several_form}
use Rattle.edit_code.specs.Names.{is_act}
use Rattle.edit_code.proofs.ReadSteps.{made_some, made_none, made_exit}
use Rattle.edit_code.proofs.entries.read_list.Goals as goal

pub returns-in_err-edits : goal.returns-in_err-edits
returns-in_err-edits c = made_exit several_form acts.Edits edits_of (λ es. is_key (first_key es)) is_act (λ a. refl) _ _ _ _ c.from_residual.ensures.1 c.in_err-edits.ensures

pub returns-in-Some : goal.returns-in-Some
returns-in-Some c = made_some several_form acts.Edits edits_of (λ es. is_key (first_key es)) is_act (λ a. refl) c.args.from.now c.read_several.new.from _ c.in-Some.edits c.in_ok-edits.ensures c.in-Some.is

pub returns-in-None : goal.returns-in-None
returns-in-None c = made_none several_form acts.Edits edits_of (λ es. is_key (first_key es)) is_act (λ a. refl) c.args.from.now c.read_several.new.from _ c.in_ok-edits.ensures c.in-None.is
