use Rattle.std.proofs.Common.{◌≡◌, ◌++◌, ℕ, List, length, sym, ap, subst, ◌∙◌, arith}
use Rattle.std.specs.Prelude.{OnOk}
use Rattle.edit_code.specs.Edits.{several_form}
use Rattle.edit_code.proofs.EntrySteps.{one_code, two_edits, several_code}
use Rattle.edit_code.proofs.entries.put_edits.Goals as goal

pub returns-then-len-eq1 : goal.returns-then-len-eq1
returns-then-len-eq1 c =
    let one : length c.args.edits.now ≡ 1 = omega (arith, c.len.ensures.length) in
    subst (λ (code : List ℕ). OnOk c.put_edit.result (c.put_edit.new.out ≡ c.args.out.now ++ code))
    (sym (one_code c.args.edits.now c.get.result.now one c.get.ensures)) c.put_edit.ensures

pub returns : goal.returns
returns c =
    let two = two_edits c.args.edits.now c.len.ensures.together (λ one. omega (arith, c.len.ensures.length, one)) in
    subst (λ (code : List ℕ). OnOk c.put_several.result (c.put_several.new.out ≡ c.args.out.now ++ code))
    (ap several_form.code c.as_slice.ensures ∙ sym (several_code c.args.edits.now two)) c.put_several.ensures
