use Rattle.std.proofs.Common.{◌≡◌, ◌++◌, drop}
use Rattle.grid_writing.specs.Levels.{time_levels}
use Rattle.grid_writing.proofs.levels.time_levels.Given as goal

abbrev pub invariant-loop-place : goal.invariant-loop-place
invariant-loop-place l = l.made.items ++ time_levels l.end (drop l.place l.config.levels) (drop l.place l.bundle.levels) ≡ time_levels l.end l.config.levels l.bundle.levels
