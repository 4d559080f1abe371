use Rattle.std.proofs.Common.{rules, ◌≡◌, ◌-◌, ◌++◌, suc, List, length, reverse, subst, sym}
use Rattle.bundle_edits.specs.declared.edit.Edit.{Edit}
use Rattle.edit_undo.proofs.Joins.{last_first}
use Rattle.edit_undo.proofs.reversed.put_reversed.Goals as goal

pub loop-rest-preserved : goal.loop-rest-preserved
loop-rest-preserved c =
    let long : length c.loop-rest.rest ≡ suc (c.len-last.result - 1) = search rules in
    subst (λ (ys : List Edit). c.push.new.self ++ reverse ys ≡ c.args.made.now ++ reverse c.args.group) (sym c.remove.ensures.left)
    (last_first c.loop-rest.made c.push.new.self c.loop-rest.rest (c.args.made.now ++ reverse c.args.group) (c.len-last.result - 1) c.remove.result
    c.loop-rest.invariant long c.remove.ensures.item c.in_ok-push.ensures.ok)
