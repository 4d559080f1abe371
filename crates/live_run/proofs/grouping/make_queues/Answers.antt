use Rattle.std.proofs.Common.{◌≡◌, ◌+◌, ◌≤◌, ℕ, List, [], ◌∷◌, ◌∙◌, ap, arith, length, length-append, subst, sym}
use Rattle.live_seats.specs.session_core.Legal.{lines_of_session}
use Rattle.live_run.specs.Inner.Grouping.{HaveRooms, QueueParts, empty_queue}
use Rattle.live_run.proofs.Sessions.{rooms_more}
use Rattle.live_run.proofs.grouping.make_queues.Goals as goal

pub loop-session-init : goal.loop-session-init
loop-session-init c = record {
  count = ap (λ (l : List QueueParts). length l) c.in_ok-queues.ensures.items;
  rooms = subst (λ (l : List QueueParts). HaveRooms 0 c.args.lines.now l) (sym c.in_ok-queues.ensures.items) tt;
}

pub loop-session-preserved : goal.loop-session-preserved
loop-session-preserved c =
    let made : c.in_ok-queue.queue ≡ empty_queue c.count_lines.result = c.in_ok-queue.ensures in
    let place : 0 + length c.loop-session.queues.items ≡ c.loop-session.session = omega (arith, c.loop-session.invariant.count) in
    record {
      count = ap (λ (l : List QueueParts). length l) c.in_ok-push.ensures.items ∙ length-append c.loop-session.queues.items (c.in_ok-queue.queue ∷ [])
          ∙ ap (λ (n : ℕ). n + 1) c.loop-session.invariant.count;
      rooms = subst (λ (l : List QueueParts). HaveRooms 0 c.args.lines.now l) (sym c.in_ok-push.ensures.items)
          (rooms_more 0 c.args.lines.now c.loop-session.queues.items c.in_ok-queue.queue c.loop-session.invariant.rooms (ap (λ (q : QueueParts). q.replies) made)
          (subst (λ (k : ℕ). length (lines_of_session (0 + length c.loop-session.queues.items) c.args.lines.now) ≤ k) (sym (ap (λ (q : QueueParts). q.capacity) made))
          (subst (λ (k : ℕ). length (lines_of_session k c.args.lines.now) ≤ c.count_lines.result) (sym place) (omega (arith, c.count_lines.ensures)))));
    }

pub returns : goal.returns
returns c = (c.loop-session.invariant.count ∙ omega (arith, c.loop-session-test.false, c.loop-session.auto.session-end), c.loop-session.invariant.rooms)
