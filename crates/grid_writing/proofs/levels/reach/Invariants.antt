use Rattle.std.proofs.Common.{◌≡◌, ◌≤◌, drop, max}
use Rattle.emu_names.specs.declared.limits.TheConstants.{SAMPLES}
use Rattle.grid_writing.specs.Levels.{reach}
use Rattle.grid_writing.proofs.levels.reach.Given as goal

abbrev pub invariant-loop-item : goal.invariant-loop-item
invariant-loop-item l = record {
  same : max l.end (reach (drop l.item-index l.items)) ≡ reach l.items;
  within : l.end ≤ SAMPLES;
}
