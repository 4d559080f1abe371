use Rattle.std.proofs.Common.{◌≡◌, List, ◌++◌, ◌∙◌, ap, arith, length, map, subst, sym}
use Rattle.std.specs.Vec.Iter.{into_iter_items}
use Rattle.live_seats.specs.session_core.declared.line.Reply.{Reply}
use Rattle.live_seats.specs.session_core.Worlds.{Each}
use Rattle.live_seats.specs.session_core.Legal.{replies_in}
use Rattle.live_seats.specs.live_laws.Lanes.{all_turns}
use Rattle.live_run.specs.Runs.{AreGrouped}
use Rattle.live_run.specs.Inner.Grouping.{HasPlace, QueueParts, queued_from}
use Rattle.live_run.proofs.Queues.{length_queued}
use Rattle.live_run.proofs.Regrouped.{ordered, places_of}
use Rattle.live_run.proofs.Gathered.{gathered_are, gathered_fit, gathered_within}
use Rattle.live_run.proofs.Laid.{laid_all, laid_more, laid_room, lane_replies, lanes_done, lanes_replies, lists_split, places_more}
use Rattle.live_run.proofs.grouping.Rooms.group.Goals as goal

pub loop-steps-init : goal.loop-steps-init
loop-steps-init g c =
    let all = c.into_iter-steps-iterator.ensures.into_iter_gives.0 in
    record {
      whole = ap (λ l. queued_from 0 (lanes_replies (map (λ v. v.items) l)) c.args.self.queues.items) all;
      places = c.requires.room.places;
      placed = subst (λ l. Each HasPlace (lanes_replies (map (λ v. v.items) l))) (sym all)
          (places_of (all_turns (map (λ v. v.items) c.args.lanes.items)) c.requires.named c.requires.placed);
    }

pub put_lane-requires-clause-places : goal.put_lane-requires-clause-places
put_lane-requires-clause-places g c = c.loop-steps.invariant.places

pub put_lane-requires-clause-placed : goal.put_lane-requires-clause-placed
put_lane-requires-clause-placed g c =
    let rest = lanes_replies (map (λ v. v.items) (into_iter_items c.loop-steps.steps-iterator)) in
    let left = lanes_replies (map (λ v. v.items) (into_iter_items c.next.new.self)) in
    let split : rest ≡ lane_replies c.in-Some.steps.items ++ left =
    lists_split (λ v. v.items) (into_iter_items c.loop-steps.steps-iterator) (into_iter_items c.next.new.self) c.in-Some.steps c.in-Some.ensures.steps.0 in
    (places_more rest (lane_replies c.in-Some.steps.items) left split c.loop-steps.invariant.placed).0

pub put_lane-requires-clause-room : goal.put_lane-requires-clause-room
put_lane-requires-clause-room g c =
    let rest = lanes_replies (map (λ v. v.items) (into_iter_items c.loop-steps.steps-iterator)) in
    let left = lanes_replies (map (λ v. v.items) (into_iter_items c.next.new.self)) in
    let split : rest ≡ lane_replies c.in-Some.steps.items ++ left =
    lists_split (λ v. v.items) (into_iter_items c.loop-steps.steps-iterator) (into_iter_items c.next.new.self) c.in-Some.steps c.in-Some.ensures.steps.0 in
    laid_room rest (lane_replies c.in-Some.steps.items) left c.loop-steps.filled.items
    (queued_from 0 (lanes_replies (map (λ v. v.items) c.args.lanes.items)) c.args.self.queues.items) split c.loop-steps.invariant.whole
    (gathered_within (all_turns (map (λ v. v.items) c.args.lanes.items)) c.args.self.queues.items c.args.self.joined c.requires.room c.requires.named)

pub loop-steps-preserved : goal.loop-steps-preserved
loop-steps-preserved g c =
    let rest = lanes_replies (map (λ v. v.items) (into_iter_items c.loop-steps.steps-iterator)) in
    let left = lanes_replies (map (λ v. v.items) (into_iter_items c.next.new.self)) in
    let split : rest ≡ lane_replies c.in-Some.steps.items ++ left =
    lists_split (λ v. v.items) (into_iter_items c.loop-steps.steps-iterator) (into_iter_items c.next.new.self) c.in-Some.steps c.in-Some.ensures.steps.0 in
    record {
      whole = laid_more rest (lane_replies c.in-Some.steps.items) left c.loop-steps.filled.items c.put_lane.new.queues.items
          (queued_from 0 (lanes_replies (map (λ v. v.items) c.args.lanes.items)) c.args.self.queues.items) split c.put_lane.ensures c.loop-steps.invariant.whole;
      places = ap (λ (l : List QueueParts). length l) c.put_lane.ensures ∙ length_queued 0 (lane_replies c.in-Some.steps.items) c.loop-steps.filled.items ∙ c.loop-steps.invariant.places;
      placed = (places_more rest (lane_replies c.in-Some.steps.items) left split c.loop-steps.invariant.placed).1;
    }

pub join-requires : goal.join-requires
join-requires g c =
    let ts = all_turns (map (λ v. v.items) c.args.lanes.items) in
    gathered_fit ts c.args.self.queues.items c.args.self.joined c.requires.room c.requires.named c.loop-steps.filled.items
    (laid_all (lanes_replies (map (λ v. v.items) (into_iter_items c.loop-steps.steps-iterator))) c.loop-steps.filled.items (queued_from 0 (replies_in ts) c.args.self.queues.items)
    (lanes_done (λ v. v.items) (into_iter_items c.loop-steps.steps-iterator) (omega (arith, c.in-None.ensures.steps.0, c.loop-steps.steps-iterator.rest.ok.0)))
    c.loop-steps.invariant.whole)

pub returns-clause-replies : goal.returns-clause-replies
returns-clause-replies g c =
    let ts = all_turns (map (λ v. v.items) c.args.lanes.items) in
    gathered_are ts c.args.self.queues.items c.args.self.joined c.requires.room c.requires.named c.loop-steps.filled.items
    (laid_all (lanes_replies (map (λ v. v.items) (into_iter_items c.loop-steps.steps-iterator))) c.loop-steps.filled.items (queued_from 0 (replies_in ts) c.args.self.queues.items)
    (lanes_done (λ v. v.items) (into_iter_items c.loop-steps.steps-iterator) (omega (arith, c.in-None.ensures.steps.0, c.loop-steps.steps-iterator.rest.ok.0)))
    c.loop-steps.invariant.whole)
    c.join.result c.join.ensures

pub returns-clause-order : goal.returns-clause-order
returns-clause-order g c =
    let ts = all_turns (map (λ v. v.items) c.args.lanes.items) in
    subst (λ (l : List Reply). AreGrouped l) (sym (returns-clause-replies g c)) (ordered ts c.requires.named c.requires.placed)
