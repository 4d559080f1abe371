use Rattle.std.proofs.Common.{◌≡◌, map, take}
use Rattle.grid_writing.specs.Filled.{entry_of}
use Rattle.grid_writing.proofs.entries.entries_of.Given as goal

abbrev pub invariant-loop-item : goal.invariant-loop-item
invariant-loop-item l = l.entries ≡ map entry_of (take l.item-index l.items)
