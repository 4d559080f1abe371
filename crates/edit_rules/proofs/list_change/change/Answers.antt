use Rattle.std.proofs.Common.{◌≡◌, ◌<◌, ◌≤◌, true, List, length, IsTrue, option_copied, subst, sym, arith}
use Rattle.std.specs.List.{list_all}
use Rattle.bundle_edits.specs.declared.edit.Edit.{Edit}
use Rattle.edit_rules.specs.Inner.Acts.{is_inner}
use Rattle.edit_rules.proofs.Lists.{inner_many, some_edit}
use Rattle.edit_rules.proofs.Calls.{one_gives}
use Rattle.edit_rules.proofs.list_change.change.Goals as goal

pub change_several-requires-clause-inner : goal.change_several-requires-clause-inner
change_several-requires-clause-inner c =
    let long = c.len-count.ensures.length in
    let more = c.if-count-gt1.true in
    subst (λ (es : List Edit). list_all is_inner es ≡ true) (sym c.as_slice.ensures)
    (inner_many c.args.edits.now c.len-count.ensures.together.together (omega (arith, long, more)))

pub returns : goal.returns
returns c =
    let long = c.len-count.ensures.length in
    let few = c.if-count-gt1.false in
    one_gives c.args.config.now c.args.counts (option_copied c.args.old) c.args.edits.now c.get.result.now c.change_one.result c.requires.counted
    (omega (arith, long, few)) c.get.ensures c.change_one.ensures
