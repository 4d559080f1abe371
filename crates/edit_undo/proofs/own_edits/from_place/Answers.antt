use Rattle.std.proofs.Common.{arith}
use Rattle.edit_undo.proofs.Found.{position_low}
use Rattle.edit_undo.proofs.own_edits.from_place.Goals as goal

pub again_by-requires-clause-position : goal.again_by-requires-clause-position
again_by-requires-clause-position c =
    let long = c.len.ensures.length in
    let within = c.if-position-len.false in
    position_low c.args.bundle.now c.args.level c.args.position c.level-list.result.now c.item_count-rules.ensures.rules c.level-list.ensures.level (omega (arith, long, within))
