use Rattle.std.proofs.Common.{◌≡◌, length}
use Rattle.live_run.specs.Inner.Grouping.{HaveRooms}
use Rattle.live_run.proofs.grouping.make_queues.Given as goal

-- the sessions so far have their room
abbrev pub invariant-loop-session : goal.invariant-loop-session
invariant-loop-session l = record {
  count : length l.queues.items ≡ l.session;
  rooms : HaveRooms 0 l.lines l.queues.items;
}
