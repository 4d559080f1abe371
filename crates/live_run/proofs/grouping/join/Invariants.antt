use Rattle.std.proofs.Common.{◌≡◌, ◌++◌}
use Rattle.std.specs.Vec.Iter.{into_iter_items}
use Rattle.live_run.proofs.Queues.{replies_queued}
use Rattle.live_run.proofs.grouping.join.Given as goal

-- with what is left the replies become all of them
abbrev pub invariant-loop-queue : goal.invariant-loop-queue
invariant-loop-queue l = record {
  whole : l.all.replies ++ replies_queued (into_iter_items l.queue-iterator) ≡ l.fn.joined.replies ++ replies_queued l.fn.queues.items;
  room : l.all.capacity ≡ l.fn.joined.capacity;
}
