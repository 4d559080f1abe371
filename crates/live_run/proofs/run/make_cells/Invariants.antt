use Rattle.std.proofs.Common.{◌≡◌, ◌≤◌, vec_capacity, vec_len}
use Rattle.live_run.proofs.run.make_cells.Given as goal

-- a cell of each number so far, and room for all
abbrev pub invariant-loop-at : goal.invariant-loop-at
invariant-loop-at l = record {
  number : vec_len l.cells ≡ l._at;
  room : l.count ≤ vec_capacity l.cells;
}
