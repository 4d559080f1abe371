use Rattle.std.proofs.Common.{◌≡◌, take}
use Rattle.bundle_index.specs.Inner.Columns.{starts_of}
use Rattle.bundle_index.proofs.columns.start_column.Given as goal

abbrev pub invariant-loop-item : goal.invariant-loop-item
invariant-loop-item l = l.column.items ≡ starts_of (take l.item-index l.items)
