use Rattle.std.proofs.Common.{rules, ◌≤◌, length}
use Rattle.annot_json.specs.Inner.Laws.{has_read_id}
use Rattle.annot_json.proofs.Shown.{items_shown, all_end}
use Rattle.annot_json.proofs.values.items_value.Goals as goal

pub returns-clause-value : goal.returns-clause-value
returns-clause-value c =
    let past : length c.args.items.now ≤ c.loop-item.item-index = search rules in
    items_shown _ c.loop-item.values.items c.args.defs.now c.args.items.now c.loop-item.item-index c.from.ensures c.loop-item.invariant.shown past

pub returns-clause-ids : goal.returns-clause-ids
returns-clause-ids c =
    let past : length c.args.items.now ≤ c.loop-item.item-index = search rules in
    all_end has_read_id c.args.items.now c.loop-item.item-index past c.loop-item.invariant.ids
