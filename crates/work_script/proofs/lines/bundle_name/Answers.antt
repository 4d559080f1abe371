use Rattle.std.proofs.Common.{◌≡◌, true, List, ℕ, IfOk, sym, ◌∙◌, subst}
use Rattle.emu_names.specs.Name.{is_name}
use Rattle.work_script.proofs.Names.{is_bundle_name}
use Rattle.work_script.proofs.lines.bundle_name.Goals as goal

pub name_of-requires : goal.name_of-requires
name_of-requires c =
    subst (λ (text : List ℕ). is_name text ≡ true) (sym (c.as_str.ensures.value ∙ c.in_ok-name.ensures.ok)) (is_bundle_name c.args.bundle)

pub returns : goal.returns
returns c =
    subst (λ (text : List ℕ). IfOk c.name_of.result (λ (made : List ℕ). made ≡ text)) (c.as_str.ensures.value ∙ c.in_ok-name.ensures.ok) c.name_of.ensures
