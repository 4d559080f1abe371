use Rattle.std.proofs.Common.{◌≡◌, ℕ, List, IfOk, subst, ◌∙◌, append_assoc, refl}
use Rattle.std.specs.String.{string_bytes}
use Rattle.work_script.specs.Summary.{summary_text}
use Rattle.work_script.proofs.summary.summary_text.Goals as goal

pub returns : goal.returns
returns c =
    let same : string_bytes c.in_ok-text.text ≡ summary_text c.args.summary = c.in_ok-text.ensures.ok ∙ simp append_assoc refl in
    subst (λ (text : List ℕ). IfOk c.from_string.result (λ (made : List ℕ). made ≡ text)) same c.from_string.ensures
