use Rattle.std.proofs.Common.{◌≡◌, ◌+◌, [], List, length, map, arith, ap, ◌∙◌, refl}
use Rattle.std.specs.Vec.Iter.{into_iter_items}
use Rattle.live_seats.specs.session_core.Legal.{disk_replies, replies_in}
use Rattle.live_seats.specs.live_laws.Lanes.{Step, accepts, turns_of}
use Rattle.live_seats.specs.Inner.Seats.{SeatParts}
use Rattle.live_run.specs.Inner.Running.{RestParts, accepts_in, parts_of, refuses_in}
use Rattle.live_run.proofs.Joins.{accepts_more, all_moved, both_more, moved, nothing, none_moved, parts_more, refuses_more, steps_more}
use Rattle.live_run.proofs.ending.leave_all.Goals as goal

abbrev steps_at : List SeatParts → List (List Step)
steps_at seats = map (λ s. s.steps) seats

pub loop-seat-init : goal.loop-seat-init
loop-seat-init g c = record {
  steps = none_moved c.args.rests.items (into_iter_items c.into_iter-seat-iterator.result) (λ r. r.steps) (λ s. s.steps)
      c.requires.room.0;
  parts = refl;
  accepted = refl;
  refused = refl;
  len = let none = ap (λ (xs : List RestParts). length xs) c.requires.room.0 in omega (arith, c.args.rests.ok.0);
  room =
      let none = ap (λ (xs : List RestParts). length xs) c.requires.room.0 in
      let gives = c.into_iter-seat-iterator.ensures.into_iter_gives in
      omega (arith, c.args.rests.ok.0);
}

pub loop-seat-preserved : goal.loop-seat-preserved
loop-seat-preserved g c =
    let was = c.loop-seat.invariant in
    let step = c.in-Some.ensures.steps in
    let old = into_iter_items c.loop-seat.seat-iterator in
    let rest = into_iter_items c.next.new.self in
    let parts : parts_of old ≡ c.in-Some.seat.count.parts + parts_of rest = ap parts_of step.0 in
    let accepted : accepts_in (steps_at old) ≡ accepts (turns_of c.in-Some.seat.steps) + accepts_in (steps_at rest) =
    ap (λ (xs : List SeatParts). accepts_in (steps_at xs)) step.0 in
    let refused : refuses_in (steps_at old) ≡ disk_replies (replies_in (turns_of c.in-Some.seat.steps)) + refuses_in (steps_at rest) =
    ap (λ (xs : List SeatParts). refuses_in (steps_at xs)) step.0 in
    let share = c.leave.ensures.all in
    let share_parts = ap (λ n. n.parts) share in
    let share_accepted = ap (λ n. n.accepted) share in
    let share_refused = ap (λ n. n.refused) share in
    record {
      steps = moved (steps_at (into_iter_items c.into_iter-seat-iterator.result)) c.loop-seat.rests.items
          c.push_reserved.new.self.items c.leave.result old rest c.in-Some.seat (λ r. r.steps) (λ s. s.steps)
          c.push_reserved.ensures.items step.0 c.leave.ensures.steps was.steps;
      parts = omega arith;
      accepted = omega arith;
      refused = omega arith;
      len = omega arith;
      room = omega arith;
    }

pub returns-clause-steps : goal.returns-clause-steps
returns-clause-steps g c =
    let none : into_iter_items c.loop-seat.seat-iterator ≡ [] =
    nothing (into_iter_items c.loop-seat.seat-iterator)
    (omega (arith, c.loop-seat.seat-iterator.rest.ok.0, c.in-None.ensures.steps)) in
    let gives = c.into_iter-seat-iterator.ensures.into_iter_gives in
    let all = all_moved (steps_at (into_iter_items c.into_iter-seat-iterator.result)) c.loop-seat.rests.items
    (into_iter_items c.loop-seat.seat-iterator) (λ r. r.steps) (λ s. s.steps) none c.loop-seat.invariant.steps in
    both_more c.loop-seat.rests.items c.push_reserved-2.new.self.items c.leave_first-last.result.0
    c.take_last.new.self.items c.args.seats.items c.take_last.result (λ r. r.steps) (λ s. s.steps)
    c.push_reserved-2.ensures.items c.take_last.ensures.items c.leave_first-last.ensures.steps
    (all ∙ ap steps_at gives.0)

pub returns-clause-parts : goal.returns-clause-parts
returns-clause-parts g c =
    let none : into_iter_items c.loop-seat.seat-iterator ≡ [] =
    nothing (into_iter_items c.loop-seat.seat-iterator)
    (omega (arith, c.loop-seat.seat-iterator.rest.ok.0, c.in-None.ensures.steps)) in
    let gives = c.into_iter-seat-iterator.ensures.into_iter_gives in
    let was = c.loop-seat.invariant.parts in
    let left : parts_of (into_iter_items c.loop-seat.seat-iterator) ≡ 0 = ap parts_of none in
    let given = ap parts_of gives.0 in
    let whole = parts_more c.take_last.new.self.items c.args.seats.items c.take_last.result c.take_last.ensures.items in
    let first = c.leave_first-last.ensures.parts in omega arith

pub returns-clause-accepted : goal.returns-clause-accepted
returns-clause-accepted g c =
    let none : into_iter_items c.loop-seat.seat-iterator ≡ [] =
    nothing (into_iter_items c.loop-seat.seat-iterator)
    (omega (arith, c.loop-seat.seat-iterator.rest.ok.0, c.in-None.ensures.steps)) in
    let gives = c.into_iter-seat-iterator.ensures.into_iter_gives in
    let was = c.loop-seat.invariant.accepted in
    let left : accepts_in (steps_at (into_iter_items c.loop-seat.seat-iterator)) ≡ 0 =
    ap (λ (xs : List SeatParts). accepts_in (steps_at xs)) none in
    let given = ap (λ (xs : List SeatParts). accepts_in (steps_at xs)) gives.0 in
    let whole = ap accepts_in (steps_more c.take_last.new.self.items c.args.seats.items c.take_last.result c.take_last.ensures.items)
    ∙ accepts_more (steps_at c.take_last.new.self.items) c.take_last.result.steps in
    let first = c.leave_first-last.ensures.accepted in omega arith

pub returns-clause-refused : goal.returns-clause-refused
returns-clause-refused g c =
    let none : into_iter_items c.loop-seat.seat-iterator ≡ [] =
    nothing (into_iter_items c.loop-seat.seat-iterator)
    (omega (arith, c.loop-seat.seat-iterator.rest.ok.0, c.in-None.ensures.steps)) in
    let gives = c.into_iter-seat-iterator.ensures.into_iter_gives in
    let was = c.loop-seat.invariant.refused in
    let left : refuses_in (steps_at (into_iter_items c.loop-seat.seat-iterator)) ≡ 0 =
    ap (λ (xs : List SeatParts). refuses_in (steps_at xs)) none in
    let given = ap (λ (xs : List SeatParts). refuses_in (steps_at xs)) gives.0 in
    let whole = ap refuses_in (steps_more c.take_last.new.self.items c.args.seats.items c.take_last.result c.take_last.ensures.items)
    ∙ refuses_more (steps_at c.take_last.new.self.items) c.take_last.result.steps in
    let first = c.leave_first-last.ensures.refused in omega arith
