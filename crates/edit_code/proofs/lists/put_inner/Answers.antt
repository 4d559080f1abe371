use Rattle.std.proofs.Common.{◌++◌, arith}
use Rattle.byte_forms.specs.Lists.{items_code}
use Rattle.byte_forms.specs.Parts.{imaged}
use Rattle.value_codes.proofs.Loops.{put_more, put_done}
use Rattle.edit_code.specs.Edits.{first_key, inner_form}
use Rattle.edit_code.proofs.lists.put_inner.Goals as goal

pub loop-edit-preserved : goal.loop-edit-preserved
unfolding inner_form imaged
loop-edit-preserved c =
    put_more (inner_form (first_key c.args.edits.now)) c.args.edits.now c.loop-edit.edit-index c.edit-item.result
    (c.args.out.now ++ items_code (inner_form (first_key c.args.edits.now)) c.args.edits.now) c.loop-edit.out c.put_told.new.out
    c.loop-edit.invariant (omega arith) c.edit-item.is c.in_ok-put_told.ensures

pub returns : goal.returns
returns c =
    put_done (inner_form (first_key c.args.edits.now)) c.args.edits.now c.loop-edit.edit-index
    (c.args.out.now ++ items_code (inner_form (first_key c.args.edits.now)) c.args.edits.now) c.loop-edit.out
    c.loop-edit.invariant (omega arith)
