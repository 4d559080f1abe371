use Rattle.std.proofs.Common.{◌∙◌, arith}
use Rattle.version_steps.proofs.Touching.{marks_more, marks_whole}
use Rattle.version_steps.proofs.marks.touched_by.Goals as goal

pub edits-preserved : goal.edits-preserved
edits-preserved c = (
  c.mark.ensures.count ∙ c.edits.invariant.0,
  marks_more c.args.config.now c.args.bundle.now.levels c.args.edits.now c.edits.edit-index c.edit-item.result c.edits.row c.mark.new.row c.touched-level.result
      (omega (arith, c.edits-test.true)) c.edit-item.is c.edits.invariant.0 c.edits.invariant.1 c.touched-level.ensures c.mark.ensures.here c.mark.ensures.others,
)
