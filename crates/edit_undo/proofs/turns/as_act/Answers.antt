use Rattle.std.proofs.Common.{rules, ◌≡◌, ◌-◌, suc, length}
use Rattle.edit_undo.proofs.InTurn.{first_made, more_made, less_left, may_push}
use Rattle.edit_undo.proofs.turns.as_act.Goals as goal

pub loop-left-init : goal.loop-left-init
loop-left-init c =
    first_made c.args.made c.in_ok-edits.edits c.remove-first.new.self c.len-last.result c.remove-first.result c.requires c.len-last.ensures c.remove-first.ensures.item
    c.in_ok-edits.ensures c.remove-first.ensures.left

pub push-requires-clause-room : goal.push-requires-clause-room
push-requires-clause-room c =
    let long : length c.loop-left.left ≡ suc (c.len-last-in-loop-left.result - 1) = search rules in
    (may_push c.args.made c.loop-left.edits c.loop-left.left (c.len-last-in-loop-left.result - 1) c.remove.result c.requires c.loop-left.invariant long c.remove.ensures.item).room

pub push-requires-clause-together : goal.push-requires-clause-together
push-requires-clause-together c =
    let long : length c.loop-left.left ≡ suc (c.len-last-in-loop-left.result - 1) = search rules in
    (may_push c.args.made c.loop-left.edits c.loop-left.left (c.len-last-in-loop-left.result - 1) c.remove.result c.requires c.loop-left.invariant long c.remove.ensures.item).together

pub loop-left-smaller : goal.loop-left-smaller
loop-left-smaller c =
    let long : length c.loop-left.left ≡ suc (c.len-last-in-loop-left.result - 1) = search rules in
    less_left c.loop-left.left c.remove.new.self (c.len-last-in-loop-left.result - 1) c.remove.result long c.remove.ensures.item c.remove.ensures.left

pub loop-left-preserved : goal.loop-left-preserved
loop-left-preserved c =
    let long : length c.loop-left.left ≡ suc (c.len-last-in-loop-left.result - 1) = search rules in
    more_made c.args.made c.loop-left.edits c.push.new.self c.loop-left.left c.remove.new.self (c.len-last-in-loop-left.result - 1) c.remove.result c.loop-left.invariant long
    c.remove.ensures.item c.in_ok-push.ensures.ok c.remove.ensures.left
