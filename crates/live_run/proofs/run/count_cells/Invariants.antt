use Rattle.std.proofs.Common.{ℕ, ◌<◌, get_or}
use Rattle.live_run.proofs.run.count_cells.Given as goal

abbrev pub invariant-loop-line : goal.invariant-loop-line
invariant-loop-line l = (k : ℕ) (d : _) → k < l.line-index → (get_or l.line-items k d).line < l.cells
