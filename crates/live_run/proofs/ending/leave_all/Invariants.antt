use Rattle.std.proofs.Common.{◌≡◌, ◌+◌, ◌<◌, ◌++◌, map, vec_len, vec_capacity}
use Rattle.std.specs.Vec.Iter.{into_iter_items, into_iter_len}
use Rattle.live_run.specs.Inner.Running.{accepts_in, parts_of, refuses_in}
use Rattle.live_run.proofs.ending.leave_all.Given as goal

abbrev pub invariant-loop-seat : goal.invariant-loop-seat
invariant-loop-seat g l = record {
  steps : map (λ r. r.steps) l.rests.items ++ map (λ s. s.steps) (into_iter_items l.seat-iterator)
      ≡ map (λ s. s.steps) (into_iter_items l.initial.seat-iterator);
  parts : l.all.parts + parts_of (into_iter_items l.seat-iterator) ≡ l.initial.all.parts + parts_of (into_iter_items l.initial.seat-iterator);
  accepted : l.all.accepted + accepts_in (map (λ s. s.steps) (into_iter_items l.seat-iterator))
      ≡ l.initial.all.accepted + accepts_in (map (λ s. s.steps) (into_iter_items l.initial.seat-iterator));
  refused : l.all.refused + refuses_in (map (λ s. s.steps) (into_iter_items l.seat-iterator))
      ≡ l.initial.all.refused + refuses_in (map (λ s. s.steps) (into_iter_items l.initial.seat-iterator));
  len : vec_len l.rests + into_iter_len l.seat-iterator ≡ into_iter_len l.initial.seat-iterator;
  room : vec_len l.rests + into_iter_len l.seat-iterator < vec_capacity l.rests;
}
