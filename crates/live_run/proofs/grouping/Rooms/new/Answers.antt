use Rattle.std.proofs.Common.{◌≡◌, ◌≤◌, ℕ, ◌∙◌, ap, length, subst, sym}
use Rattle.live_seats.specs.session_core.Steps.{session_places}
use Rattle.live_run.specs.Inner.Grouping.{QueueParts, empty_queue, lines_from}
use Rattle.live_run.proofs.Sessions.{few_lines}
use Rattle.live_run.proofs.grouping.Rooms.new.Goals as goal

-- src/grouping.rt:132:5
pub returns : goal.returns
returns c =
    let made : c.in_ok-joined.joined ≡ empty_queue c.len.result = c.in_ok-joined.ensures in
    record {
      places = c.in_ok-queues.ensures.0;
      each = c.in_ok-queues.ensures.1;
      empty = ap (λ (q : QueueParts). q.replies) made;
      room = subst (λ (k : ℕ). length (lines_from 0 session_places c.args.lines.now) ≤ k) (sym (ap (λ (q : QueueParts). q.capacity) made ∙ c.len.ensures))
          (few_lines 0 session_places c.args.lines.now);
    }
