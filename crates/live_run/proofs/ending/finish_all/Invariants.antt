use Rattle.std.proofs.Common.{◌≡◌, ◌+◌, ◌≤◌, ◌++◌, map, vec_len, vec_capacity}
use Rattle.std.specs.Vec.Iter.{into_iter_items, into_iter_len}
use Rattle.live_seats.specs.session_core.Worlds.{Each}
use Rattle.live_run.specs.Inner.Running.{HasEnded}
use Rattle.live_run.proofs.ending.finish_all.Given as goal

abbrev pub invariant-loop-rest : goal.invariant-loop-rest
invariant-loop-rest g l = record {
  same : l.book ≡ l.initial.book;
  steps : map (λ v. v.items) l.lanes.items ++ map (λ r. r.steps) (into_iter_items l.rest-iterator)
      ≡ map (λ r. r.steps) (into_iter_items l.initial.rest-iterator);
  ended : Each (HasEnded g.K.Opening.opened l.initial.book.list) (map (λ v. v.items) l.lanes.items);
  room : vec_len l.lanes + into_iter_len l.rest-iterator ≤ vec_capacity l.lanes;
}
