use Rattle.std.proofs.Common.{◌≡◌, ◌<◌, ℕ, List, [], ◌∷◌, ◌∙◌, ap, arith, length, subst, sym}
use Rattle.std.specs.Vec.Iter.{into_iter_items}
use Rattle.live_seats.specs.session_core.declared.line.Reply.{Reply}
use Rattle.live_seats.specs.session_core.Worlds.{Each}
use Rattle.live_seats.specs.live_laws.Lanes.{Step}
use Rattle.live_run.specs.Inner.Grouping.{AreWithin, HasPlace, QueueParts, queued_from}
use Rattle.live_run.proofs.Queues.{length_queued}
use Rattle.live_run.proofs.Laid.{laid_all, laid_more, laid_room, lane_done, lane_replies, lane_split, places_more}
use Rattle.live_run.proofs.grouping.put_lane.Goals as goal

pub loop-answered-init : goal.loop-answered-init
loop-answered-init g c =
    let all : into_iter_items c.into_iter-answered-iterator.result ≡ c.args.steps.items = c.into_iter-answered-iterator.ensures.into_iter_gives.0 in
    record {
      whole = ap (λ (l : List Step). queued_from 0 (lane_replies l) c.args.queues.now.items) all;
      places = c.requires.places;
      placed = subst (λ (l : List Step). Each HasPlace (lane_replies l)) (sym all) c.requires.placed;
    }

pub put-requires-clause-place : goal.put-requires-clause-place
put-requires-clause-place g c =
    let split = lane_split (into_iter_items c.loop-answered.answered-iterator) (into_iter_items c.next.new.self) c.in-Some.answered c.in-Some.ensures.steps.0 in
    let placed = places_more (lane_replies (into_iter_items c.loop-answered.answered-iterator)) (c.in-Some.answered.turn.reply ∷ []) (lane_replies (into_iter_items c.next.new.self)) split
    c.loop-answered.invariant.placed in
    subst (λ (r : Reply). r.session.0 < length c.loop-answered.queues.items) (sym c.into_reply.ensures)
    (subst (λ (k : ℕ). c.in-Some.answered.turn.reply.session.0 < k) (sym c.loop-answered.invariant.places) placed.0.0)

pub put-requires-clause-room : goal.put-requires-clause-room
put-requires-clause-room g c =
    let split = lane_split (into_iter_items c.loop-answered.answered-iterator) (into_iter_items c.next.new.self) c.in-Some.answered c.in-Some.ensures.steps.0 in
    subst (λ (r : Reply). AreWithin (queued_from 0 (r ∷ []) c.loop-answered.queues.items)) (sym c.into_reply.ensures)
    (laid_room (lane_replies (into_iter_items c.loop-answered.answered-iterator)) (c.in-Some.answered.turn.reply ∷ []) (lane_replies (into_iter_items c.next.new.self))
    c.loop-answered.queues.items (queued_from 0 (lane_replies c.args.steps.items) c.args.queues.now.items) split c.loop-answered.invariant.whole c.requires.room)

pub loop-answered-preserved : goal.loop-answered-preserved
loop-answered-preserved g c =
    let split = lane_split (into_iter_items c.loop-answered.answered-iterator) (into_iter_items c.next.new.self) c.in-Some.answered c.in-Some.ensures.steps.0 in
    let placed = places_more (lane_replies (into_iter_items c.loop-answered.answered-iterator)) (c.in-Some.answered.turn.reply ∷ []) (lane_replies (into_iter_items c.next.new.self)) split
    c.loop-answered.invariant.placed in
    let put : c.put.new.queues.items ≡ queued_from 0 (c.in-Some.answered.turn.reply ∷ []) c.loop-answered.queues.items =
    c.put.ensures ∙ ap (λ (r : Reply). queued_from 0 (r ∷ []) c.loop-answered.queues.items) c.into_reply.ensures in
    record {
      whole = laid_more (lane_replies (into_iter_items c.loop-answered.answered-iterator)) (c.in-Some.answered.turn.reply ∷ []) (lane_replies (into_iter_items c.next.new.self))
          c.loop-answered.queues.items c.put.new.queues.items (queued_from 0 (lane_replies c.args.steps.items) c.args.queues.now.items) split put c.loop-answered.invariant.whole;
      places = ap (λ (l : List QueueParts). length l) put ∙ length_queued 0 (c.in-Some.answered.turn.reply ∷ []) c.loop-answered.queues.items ∙ c.loop-answered.invariant.places;
      placed = placed.1;
    }

pub returns : goal.returns
returns g c =
    laid_all (lane_replies (into_iter_items c.loop-answered.answered-iterator)) c.loop-answered.queues.items (queued_from 0 (lane_replies c.args.steps.items) c.args.queues.now.items)
    (lane_done (into_iter_items c.loop-answered.answered-iterator) (omega (arith, c.in-None.ensures.steps.0, c.loop-answered.answered-iterator.rest.ok.0)))
    c.loop-answered.invariant.whole
