use Rattle.std.proofs.Common.{◌≡◌, take}
use Rattle.bundle_index.specs.Inner.Columns.{ends_of}
use Rattle.bundle_index.proofs.columns.end_column.Given as goal

abbrev pub invariant-loop-item : goal.invariant-loop-item
invariant-loop-item l = l.column.items ≡ ends_of (take l.item-index l.items)
