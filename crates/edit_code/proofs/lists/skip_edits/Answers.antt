use Rattle.edit_code.proofs.Exits.{skip_exit}
use Rattle.std.proofs.Common.{arith}
use Rattle.edit_code.proofs.ListSteps.{passes_first, passes_more, passes_done}
use Rattle.edit_code.proofs.lists.skip_edits.Goals as goal

pub returns-in_err-read_told : goal.returns-in_err-read_told
returns-in_err-read_told c =
    skip_exit _ _ c.args.count c.loop-place._place c.args.from.now c.loop-place.from c.read_told.new.from c.from_residual.ensures.1
    c.loop-place.invariant (omega arith) c.in_err-read_told.ensures

pub loop-place-init : goal.loop-place-init
loop-place-init c = passes_first c.args.count c.args.from.now

pub loop-place-preserved : goal.loop-place-preserved
loop-place-preserved c =
    passes_more c.args.count c.loop-place._place c.args.from.now c.loop-place.from c.read_told.new.from _ c.loop-place.invariant
    (omega arith) c.in_ok-read_told.ensures

pub returns : goal.returns
returns c = passes_done c.args.count c.loop-place._place c.args.from.now c.loop-place.from c.loop-place.invariant (omega arith)
