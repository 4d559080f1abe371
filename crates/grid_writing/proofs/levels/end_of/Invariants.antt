use Rattle.std.proofs.Common.{◌≡◌, ◌≤◌, drop, max}
use Rattle.emu_names.specs.declared.limits.TheConstants.{SAMPLES}
use Rattle.grid_writing.specs.Levels.{end_of}
use Rattle.grid_writing.proofs.levels.end_of.Given as goal

abbrev pub invariant-loop-level : goal.invariant-loop-level
invariant-loop-level l = record {
  same : max l.end (end_of (drop l.level l.bundle.levels)) ≡ end_of l.bundle.levels;
  some : 1 ≤ l.end;
  within : l.end ≤ SAMPLES;
}
