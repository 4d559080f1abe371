use Rattle.bundle_index.proofs.Steps.{columns_more}
use Rattle.bundle_index.proofs.columns.label_columns.Goals as goal

pub loop-attribute-preserved : goal.loop-attribute-preserved
loop-attribute-preserved c =
    rw c.in_ok-push.ensures.ok (columns_more c.args.labels.now c.loop-attribute.labels c.label_column.new.labels
    c.args.items.now c.loop-attribute.attribute c.loop-attribute.columns c.in_ok-column.column
    c.loop-attribute.invariant c.in_ok-column.ensures.grown c.in_ok-column.ensures.column)
