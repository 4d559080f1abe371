use Rattle.std.proofs.Common.{◌≡◌, length, map}
use Rattle.std.specs.Vec.Iter.{into_iter_items}
use Rattle.live_seats.specs.session_core.Steps.{session_places}
use Rattle.live_seats.specs.session_core.Worlds.{Each}
use Rattle.live_run.specs.Inner.Grouping.{HasPlace, queued_from}
use Rattle.live_run.proofs.Laid.{lanes_replies}
use Rattle.live_run.proofs.grouping.Rooms.group.Given as goal

-- with the lanes that are left the queues become the ones that all replies make
abbrev pub invariant-loop-steps : goal.invariant-loop-steps
invariant-loop-steps g l = record {
  whole : queued_from 0 (lanes_replies (map (λ v. v.items) (into_iter_items l.steps-iterator))) l.filled.items
      ≡ queued_from 0 (lanes_replies (map (λ v. v.items) l.fn.lanes.items)) l.fn.self.queues.items;
  places : length l.filled.items ≡ session_places;
  placed : Each HasPlace (lanes_replies (map (λ v. v.items) (into_iter_items l.steps-iterator)));
}
