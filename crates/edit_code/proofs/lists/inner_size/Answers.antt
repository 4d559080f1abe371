use Rattle.std.proofs.Common.{arith}
use Rattle.byte_forms.specs.Parts.{imaged}
use Rattle.value_codes.proofs.Loops.{sized_first, sized_more, sized_done}
use Rattle.edit_rules.specs.Inner.Acts.{is_edit_of}
use Rattle.edit_code.specs.Edits.{first_key, inner_form}
use Rattle.edit_code.proofs.ListSteps.{each_at, inner_here, made_here}
use Rattle.edit_code.proofs.lists.inner_size.Goals as goal

pub loop-edit-init : goal.loop-edit-init
loop-edit-init c = sized_first (inner_form (first_key c.args.edits.now)) c.args.edits.now

pub told_size-requires : goal.told_size-requires
told_size-requires c =
    inner_here (first_key c.args.edits.now) c.edit-item.result
    (each_at (is_edit_of (first_key c.args.edits.now)) c.args.edits.now c.loop-edit.edit-index c.edit-item.result c.requires
    (omega arith) c.edit-item.is)

pub loop-edit-preserved : goal.loop-edit-preserved
unfolding inner_form imaged
loop-edit-preserved c =
    let key = first_key c.args.edits.now in
    let is = each_at (is_edit_of key) c.args.edits.now c.loop-edit.edit-index c.edit-item.result c.requires (omega arith) c.edit-item.is in
    sized_more (inner_form key) c.args.edits.now c.loop-edit.edit-index c.loop-edit.size c.told_size.result _ c.edit-item.result
    c.loop-edit.invariant (omega arith) c.edit-item.is c.told_size.ensures.len c.told_size.ensures.some
    (λ small. (made_here key c.edit-item.result is, c.told_size.ensures.fits small)) (omega arith)

pub returns : goal.returns
returns c =
    let done = sized_done (inner_form (first_key c.args.edits.now)) c.args.edits.now c.loop-edit.edit-index c.loop-edit.size c.loop-edit.invariant (omega arith) in
    record { len = done.0; some = done.1; fits = done.2 }
