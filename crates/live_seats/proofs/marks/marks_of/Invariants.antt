use Rattle.std.proofs.Common.{◌≡◌, ◌+◌, ◌++◌, drop, vec_capacity, vec_len}
use Rattle.live_seats.specs.Marks.{marks_from}
use Rattle.live_seats.proofs.marks.marks_of.Given as goal

-- the entries before the place are marked, in the room that was made
abbrev pub invariant-loop-place : goal.invariant-loop-place
invariant-loop-place l = record {
  made : l.marks.items ++ marks_from (l.place + 1) (drop l.place l.history) ≡ marks_from (l.from + 1) (drop l.from l.history);
  long : vec_len l.marks + l.from ≡ l.place;
  room : vec_capacity l.marks ≡ vec_capacity l.fn.room;
}
