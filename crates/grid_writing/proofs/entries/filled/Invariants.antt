use Rattle.std.proofs.Common.{◌≡◌, ◌++◌, drop}
use Rattle.grid_writing.specs.Filled.{filled_from}
use Rattle.grid_writing.specs.Inner.Within.{AreWithin}
use Rattle.grid_writing.proofs.entries.filled.Given as goal

abbrev pub invariant-loop-item : goal.invariant-loop-item
invariant-loop-item l = record {
  same : l.entries ++ filled_from l.end l.from (drop l.item-index l.items) ≡ filled_from l.end 0 l.items;
  within : AreWithin l.end l.from (drop l.item-index l.items);
}
