use Rattle.std.proofs.Common.{◌≡◌, ℕ, get_or, ◌+◌, ◌<◌, ◌≤◌, [], vec_len, vec_capacity}
use Rattle.std.specs.Vec.Iter.{into_iter_items, into_iter_len}
use Rattle.live_run.specs.Inner.Running.{HaveTaken, HasTaken, IsThread, parts_of}
use Rattle.live_run.proofs.lanes.end_lanes.Given as goal

abbrev pub invariant-loop-child : goal.invariant-loop-child
invariant-loop-child g l = record {
  number : vec_len l.ended + into_iter_len l.child-iterator ≡ l.token.value.made;
  threads : (k : ℕ) (d : _) → k < into_iter_len l.child-iterator
      → IsThread l.token.of l.seats l.lines (vec_len l.ended + k) (get_or (into_iter_items l.child-iterator) k d).promise;
  taken : HaveTaken l.seats l.token.value.made l.lines l.ended.items;
  parts : parts_of l.ended.items ≡ vec_len l.ended;
  room : l.seats ≤ vec_capacity l.ended;
}

abbrev pub invariant-loop-seat : goal.invariant-loop-seat
invariant-loop-seat g l = record {
  number : vec_len l.ended + into_iter_len l.seat-iterator ≡ l.seats;
  past : l.token.value.made < vec_len l.ended;
  idle : (k : ℕ) (d : _) → k < into_iter_len l.seat-iterator
      → HasTaken [] (get_or (into_iter_items l.seat-iterator) k d);
  taken : HaveTaken l.seats l.token.value.made l.lines l.ended.items;
  parts : parts_of l.ended.items + 1 ≡ vec_len l.ended + l.fn.last.count.parts;
  room : l.seats ≤ vec_capacity l.ended;
}
