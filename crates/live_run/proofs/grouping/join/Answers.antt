use Rattle.std.proofs.Common.{◌++◌, List, ◌∙◌, ap, arith, refl}
use Rattle.std.specs.Vec.Iter.{into_iter_items}
use Rattle.live_run.specs.Inner.Grouping.{QueueParts}
use Rattle.live_run.proofs.Queues.{replies_queued}
use Rattle.live_run.proofs.Laid.{joined_all, joined_long, joined_more, queues_split}
use Rattle.live_run.proofs.grouping.join.Goals as goal

pub loop-queue-init : goal.loop-queue-init
loop-queue-init c = record {
  whole = ap (λ (l : List QueueParts). c.args.joined.replies ++ replies_queued l) c.into_iter-queue-iterator.ensures.into_iter_gives.0;
  room = refl;
}

pub append-requires : goal.append-requires
append-requires c =
    let split = queues_split (into_iter_items c.loop-queue.queue-iterator) (into_iter_items c.next.new.self) c.in-Some.queue c.in-Some.ensures.steps.0 in
    omega (
      arith,
      c.requires,
      c.loop-queue.invariant.room,
      joined_long c.loop-queue.all.replies c.in-Some.queue.replies (replies_queued (into_iter_items c.next.new.self))
          (replies_queued (into_iter_items c.loop-queue.queue-iterator)) (c.args.joined.replies ++ replies_queued c.args.queues.items) split c.loop-queue.invariant.whole,
    )

pub loop-queue-preserved : goal.loop-queue-preserved
loop-queue-preserved c =
    let split = queues_split (into_iter_items c.loop-queue.queue-iterator) (into_iter_items c.next.new.self) c.in-Some.queue c.in-Some.ensures.steps.0 in
    record {
      whole = ap (λ (q : QueueParts). q.replies ++ replies_queued (into_iter_items c.next.new.self)) c.append.ensures
          ∙ joined_more c.loop-queue.all.replies c.in-Some.queue.replies (replies_queued (into_iter_items c.next.new.self))
          (replies_queued (into_iter_items c.loop-queue.queue-iterator)) (c.args.joined.replies ++ replies_queued c.args.queues.items) split c.loop-queue.invariant.whole;
      room = ap (λ (q : QueueParts). q.capacity) c.append.ensures ∙ c.loop-queue.invariant.room;
    }

pub returns : goal.returns
returns c =
    c.from_vec.ensures ∙ ap (λ (q : QueueParts). q.replies) c.all.view_is
    ∙ joined_all c.loop-queue.all.replies (c.args.joined.replies ++ replies_queued c.args.queues.items) (into_iter_items c.loop-queue.queue-iterator)
    (omega (arith, c.in-None.ensures.steps.0, c.loop-queue.queue-iterator.rest.ok.0)) c.loop-queue.invariant.whole
