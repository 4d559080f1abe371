use Rattle.std.proofs.Common.{map, take}
use Rattle.level_items.specs.Levels.{label_of}
use Rattle.bundle_index.proofs.Steps.{IsColumnSoFar}
use Rattle.bundle_index.proofs.columns.label_column.Given as goal

abbrev pub invariant-loop-item : goal.invariant-loop-item
invariant-loop-item l =
    IsColumnSoFar l.fn.labels l.labels l.column.items (map (label_of l.attribute) (take l.item-index l.items))
