use Rattle.std.proofs.Common.{◌≡◌, length}
use Rattle.std.specs.Vec.Iter.{into_iter_items}
use Rattle.live_seats.specs.session_core.Steps.{session_places}
use Rattle.live_seats.specs.session_core.Worlds.{Each}
use Rattle.live_run.specs.Inner.Grouping.{HasPlace, queued_from}
use Rattle.live_run.proofs.Laid.{lane_replies}
use Rattle.live_run.proofs.grouping.put_lane.Given as goal

-- with what is left the queues become the ones that all replies make
abbrev pub invariant-loop-answered : goal.invariant-loop-answered
invariant-loop-answered g l = record {
  whole : queued_from 0 (lane_replies (into_iter_items l.answered-iterator)) l.queues.items ≡ queued_from 0 (lane_replies l.fn.steps.items) l.fn.queues.items;
  places : length l.queues.items ≡ session_places;
  placed : Each HasPlace (lane_replies (into_iter_items l.answered-iterator));
}
