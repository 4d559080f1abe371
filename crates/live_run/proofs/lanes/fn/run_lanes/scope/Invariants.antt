use Rattle.std.proofs.Common.{◌≡◌, ℕ, get_or, ◌+◌, ◌<◌, ◌≤◌, [], length, vec_len, vec_capacity}
use Rattle.live_run.specs.Inner.Running.{AreFree, IsThread}
use Rattle.live_run.proofs.lanes.fn.run_lanes.scope.Given as goal

abbrev pub invariant-loop-seat : goal.invariant-loop-seat
invariant-loop-seat g l = record {
  number : l.made + vec_len l.free + 1 ≡ l.seats;
  few : l.seats ≤ 16;
  made : vec_len l.children ≡ l.made;
  room : l.made + vec_len l.free ≤ vec_capacity l.children;
  threads : (k : ℕ) (d : _) → k < l.made → IsThread l.start.id l.seats l.lines k (get_or l.children.items k d).promise;
  free : AreFree l.seats l.lines l.free.items;
  last : (l.last.steps ≡ []) × (length l.lines ≤ l.last.room) × (l.last.count.parts ≡ l.initial.last.count.parts);
  ended : (l.ended.items ≡ []) × (l.seats ≤ vec_capacity l.ended);
}

abbrev pub decreases-loop-seat : goal.decreases-loop-seat
decreases-loop-seat g l = vec_len l.free
