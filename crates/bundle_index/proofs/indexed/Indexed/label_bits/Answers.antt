use Rattle.level_items.specs.Levels.{items_at}
use Rattle.bundle_index.proofs.Asked.{unset_for}
use Rattle.bundle_index.proofs.indexed.Indexed.label_bits.Goals as goal

pub set_label_bits-requires-clause-unset : goal.set_label_bits-requires-clause-unset
set_label_bits-requires-clause-unset c =
    unset_for c.args.self.now.labels c.args.attribute c.column.result.now (items_at c.args.self.now.bundle.levels c.args.level) _
    c.column.ensures c.in_ok-row.ensures
