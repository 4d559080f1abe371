use Rattle.std.proofs.Common.{◌≡◌, [], List, length, map, arith, ap, ◌∙◌, sym, refl, subst}
use Rattle.std.specs.Vec.Iter.{into_iter_items}
use Rattle.live_seats.specs.session_core.Worlds.{Each}
use Rattle.live_seats.specs.Inner.Seats.{SeatParts}
use Rattle.live_run.specs.Inner.Running.{IsFresh}
use Rattle.live_run.proofs.Joins.{all_moved, each_more, moved, none_moved, nothing}
use Rattle.live_run.proofs.Rooming.{map_same}
use Rattle.live_run.proofs.places.sit_all.Goals as goal

pub loop-place-init : goal.loop-place-init
loop-place-init g c =
    let none = ap (λ (xs : List SeatParts). length xs) c.requires.room.0 in
    let gives = c.into_iter-place-iterator.ensures.into_iter_gives in record {
      rooms = none_moved c.args.seats.items (into_iter_items c.into_iter-place-iterator.result) (λ s. s.room) (λ p. p)
          c.requires.room.0;
      fresh = rw c.requires.room.0 tt;
      len = omega (arith, c.args.seats.ok.0);
      parts = omega (arith, c.args.seats.ok.0);
      enough = omega (arith, c.requires.share);
      counts = (refl, refl);
      room = omega (arith, c.args.seats.ok.0);
    }

pub loop-place-preserved : goal.loop-place-preserved
loop-place-preserved g c =
    let was = c.loop-place.invariant in
    let step = c.in-Some.ensures.steps in
    let left = c.split.ensures.left in
    let parts = ap (λ n. n.parts) left in
    let fresh : IsFresh c.sit.result = record { steps = c.sit.ensures.steps; part = c.sit.ensures.parts ∙ ap (λ n. n.parts) c.split.ensures.new } in
    record {
      rooms = moved (map (λ p. p) (into_iter_items c.into_iter-place-iterator.result)) c.loop-place.seats.items
          c.push_reserved.new.self.items c.sit.result (into_iter_items c.loop-place.place-iterator)
          (into_iter_items c.next.new.self) c.in-Some.place (λ s. s.room) (λ p. p) c.push_reserved.ensures.items step.0
          c.sit.ensures.room was.rooms;
      fresh = subst (λ (xs : List SeatParts). Each IsFresh xs) (sym c.push_reserved.ensures.items)
          (each_more IsFresh c.loop-place.seats.items c.sit.result was.fresh fresh);
      len = omega arith;
      parts = omega arith;
      enough = omega arith;
      counts = (ap (λ n. n.accepted) left ∙ was.counts.0, ap (λ n. n.refused) left ∙ was.counts.1);
      room = omega arith;
    }

pub returns-clause-rooms : goal.returns-clause-rooms
returns-clause-rooms g c =
    let none : into_iter_items c.loop-place.place-iterator ≡ [] =
    nothing (into_iter_items c.loop-place.place-iterator)
    (omega (arith, c.loop-place.place-iterator.rest.ok.0, c.in-None.ensures.steps)) in
    let gives = c.into_iter-place-iterator.ensures.into_iter_gives in
    all_moved (map (λ p. p) (into_iter_items c.into_iter-place-iterator.result)) c.loop-place.seats.items
    (into_iter_items c.loop-place.place-iterator) (λ s. s.room) (λ p. p) none c.loop-place.invariant.rooms
    ∙ map_same (into_iter_items c.into_iter-place-iterator.result) ∙ gives.0
