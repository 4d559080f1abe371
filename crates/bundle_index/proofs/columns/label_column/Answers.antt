use Rattle.std.proofs.Common.{Some, ap, sym, ◌∙◌, arith}
use Rattle.bundle_index.proofs.Steps.{column_more}
use Rattle.bundle_index.proofs.columns.label_column.Goals as goal

pub loop-item-preserved : goal.loop-item-preserved
loop-item-preserved c =
    rw c.in_ok-push.ensures.items (column_more c.args.labels.now c.loop-item.labels c.number_near.new.self c.loop-item.column.items
    c.args.items.now c.loop-item.item-index c.args.attribute c.in_ok-number.number c.item-item.result
    c.as_str.result.now c.loop-item.invariant c.in_ok-number.ensures.grown (omega arith) c.item-item.is
    (c.get.ensures ∙ ap Some (sym c.as_str.ensures))
    c.in_ok-number.ensures.number)
