use Rattle.std.proofs.Common.{rules, ◌≤◌, length}
use Rattle.std.proofs.lemmas.Result.{IfOk-weaker}
use Rattle.edit_undo.proofs.Joins.{pairs_end}
use Rattle.edit_undo.proofs.link_edits.pairs_out.Goals as goal

pub returns : goal.returns
returns c =
    let past : length c.args.pairs.now ≤ c.loop-pair.pair-index = search rules in
    IfOk-weaker _ _ _
    (λ made is. pairs_end c.args.key.now c.args.links.now c.args.pairs.now c.loop-pair.pair-index c.loop-pair.first made c.loop-pair.invariant past is) c.reversed.ensures
