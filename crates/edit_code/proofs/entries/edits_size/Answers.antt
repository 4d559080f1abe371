use Rattle.std.proofs.Common.{◌≡◌, ◌≤◌, ◌<◌, List, length, sym, ap, subst, ◌∙◌, arith, min, ◌^◌}
use Rattle.bundle_edits.specs.declared.edit.Edit.{Edit}
use Rattle.edit_code.specs.Edits.{several_form}
use Rattle.edit_code.proofs.EntrySteps.{one_code, one_fits, two_edits, several_code, several_fits}
use Rattle.edit_code.proofs.entries.edits_size.Goals as goal

pub returns-then-len-eq1 : goal.returns-then-len-eq1
returns-then-len-eq1 c =
    let one : length c.args.edits.now ≡ 1 = omega (arith, c.len.ensures.length) in record {
      len = c.edit_size.ensures.len
          ∙ ap (λ bytes. min (2 ^ 32) (length bytes)) (sym (one_code c.args.edits.now c.get.result.now one c.get.ensures));
      some = c.edit_size.ensures.some;
      fits = λ small. one_fits c.args.edits.now c.get.result.now one c.get.ensures (c.edit_size.ensures.fits small);
    }

pub returns : goal.returns
returns c =
    let two = two_edits c.args.edits.now c.len.ensures.together (λ one. omega (arith, c.len.ensures.length, one)) in
    let size = subst (λ (es : List Edit). (c.several_size.result ≡ min (2 ^ 32) (length (several_form.code es)))
    × (c.several_size.result < 2 ^ 32 → several_form.fits es)) c.as_slice.ensures
    (c.several_size.ensures.len, c.several_size.ensures.fits) in record {
      len = size.0 ∙ ap (λ bytes. min (2 ^ 32) (length bytes)) (sym (several_code c.args.edits.now two));
      some = c.several_size.ensures.some;
      fits = λ small. several_fits c.args.edits.now two (size.1 small);
    }
