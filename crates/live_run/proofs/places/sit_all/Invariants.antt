use Rattle.std.proofs.Common.{◌≡◌, ◌+◌, ◌<◌, ◌≤◌, ◌++◌, map, vec_len, vec_capacity}
use Rattle.std.specs.Vec.Iter.{into_iter_items, into_iter_len}
use Rattle.live_seats.specs.session_core.Worlds.{Each}
use Rattle.live_run.specs.Inner.Running.{IsFresh}
use Rattle.live_run.proofs.places.sit_all.Given as goal

abbrev pub invariant-loop-place : goal.invariant-loop-place
invariant-loop-place g l = record {
  rooms : map (λ s. s.room) l.seats.items ++ map (λ p. p) (into_iter_items l.place-iterator)
      ≡ map (λ p. p) (into_iter_items l.initial.place-iterator);
  fresh : Each IsFresh l.seats.items;
  len : vec_len l.seats + into_iter_len l.place-iterator ≡ into_iter_len l.initial.place-iterator;
  parts : l.share.parts + vec_len l.seats ≡ l.initial.share.parts;
  enough : into_iter_len l.place-iterator < l.share.parts;
  counts : (l.share.accepted ≡ l.initial.share.accepted) × (l.share.refused ≡ l.initial.share.refused);
  room : vec_len l.seats + into_iter_len l.place-iterator ≤ vec_capacity l.seats;
}
