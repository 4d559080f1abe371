use Rattle.std.proofs.Common.{◌≡◌, take}
use Rattle.emu_names.proofs.series.copied.Given as goal

-- the elements so far are copied
abbrev pub invariant-loop-item : goal.invariant-loop-item
invariant-loop-item g l = l.made.items ≡ take l.item-index l.items
