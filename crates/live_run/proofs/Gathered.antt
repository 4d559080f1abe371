-- All replies, gathered from the queues.
use Rattle.std.proofs.Common.{◌≡◌, ℕ, ◌≤◌, List, ◌++◌, length, sym, ◌∙◌, ap, subst}
use Rattle.live_seats.specs.session_core.declared.line.Reply.{Reply}
use Rattle.live_seats.specs.session_core.Steps.{session_places}
use Rattle.live_seats.specs.session_core.Worlds.{Each, Turn}
use Rattle.live_seats.specs.session_core.Legal.{IsNamed, lines_in, replies_in}
use Rattle.live_seats.specs.live_laws.Lanes.{grouped}
use Rattle.live_run.specs.Runs.{replies_from}
use Rattle.live_run.specs.Inner.Grouping.{AreWithin, HasRooms, QueueParts, queued_from}
use Rattle.live_run.proofs.Queues.{all_queued, replies_queued}
use Rattle.live_run.proofs.Sessions.{grouped_count, grouped_replies, rooms_empty, rooms_within}

module _ (ts : List Turn) (queues : List QueueParts) (joined : QueueParts) (rooms : HasRooms (lines_in ts) queues joined) (named : Each IsNamed ts) where
  -- each queue has room for the replies of its session
  pub gathered_within : AreWithin (queued_from 0 (replies_in ts) queues)
  gathered_within = rooms_within 0 ts queues named rooms.each

  module _ (filled : List QueueParts) (is : filled ≡ queued_from 0 (replies_in ts) queues) where
    gathered : joined.replies ++ replies_queued filled ≡ replies_from 0 session_places (replies_in ts)
    gathered =
        ap (λ (l : List Reply). l ++ replies_queued filled) rooms.empty
        ∙ ap (λ (l : List QueueParts). replies_queued l) is
        ∙ all_queued 0 (replies_in ts) queues (rooms_empty 0 (lines_in ts) queues rooms.each)
        ∙ ap (λ (n : ℕ). replies_from 0 n (replies_in ts)) rooms.places

    -- there is room for all of them
    pub gathered_fit : length (joined.replies ++ replies_queued filled) ≤ joined.capacity
    gathered_fit =
        subst (λ (n : ℕ). n ≤ joined.capacity) (sym (ap (λ (l : List Reply). length l) gathered ∙ grouped_count 0 session_places ts named)) rooms.room

    pub gathered_are : (result : List Reply) → result ≡ joined.replies ++ replies_queued filled → result ≡ replies_in (grouped ts)
    gathered_are result from = from ∙ gathered ∙ grouped_replies 0 session_places ts named
