-- Room for replies, session by session.
use Rattle.std.specs.Prelude.{◌≡◌, ℕ, zero, suc, ◌<◌, ◌≤◌, List, [], ◌∷◌, ◌++◌, length, filter}
use Rattle.live_seats.specs.session_core.declared.line.Line.{Line}
use Rattle.live_seats.specs.session_core.declared.line.Reply.{Reply}
use Rattle.live_seats.specs.session_core.Legal.{lines_of_session}
use Rattle.live_seats.specs.session_core.Steps.{session_places}
use Rattle.live_seats.specs.session_core.Worlds.{Each, Turn}
use Rattle.live_run.specs.Runs.{is_reply_of}

-- What contracts see of a queue: its replies, and for how many it has room
pub record QueueParts : Type 0 where
  pub replies : List Reply
  pub capacity : ℕ

-- a queue of no reply
abbrev pub empty_queue : ℕ → QueueParts
empty_queue capacity = record { replies = []; capacity = capacity }

-- a queue with more replies
abbrev pub appended : QueueParts → List Reply → QueueParts
appended q more = record { replies = q.replies ++ more; capacity = q.capacity }

-- a queue with one reply more
abbrev pub pushed : QueueParts → Reply → QueueParts
pushed q reply = appended q (reply ∷ [])

-- queues with more replies: each, from the one of this session on, gets those of its session, in their order
abbrev pub queued_from : ℕ → List Reply → List QueueParts → List QueueParts
queued_from s replies [] = []
queued_from s replies (q ∷ qs) = appended q (filter (is_reply_of s) replies) ∷ queued_from (suc s) replies qs

-- a queue has no more replies than it has room for
abbrev pub IsWithin : QueueParts → Type 0
IsWithin q = length q.replies ≤ q.capacity

-- so have all
abbrev pub AreWithin : List QueueParts → Type 0
AreWithin qs = Each IsWithin qs

-- a reply is of one of the sessions
abbrev pub HasPlace : Reply → Type 0
HasPlace r = r.session.0 < session_places

-- a turn is of one of the sessions
abbrev pub IsPlaced : Turn → Type 0
IsPlaced t = t.line.session.0 < session_places

-- lines session by session, from this one on, for so many sessions
abbrev pub lines_from : ℕ → ℕ → List Line → List Line
lines_from s zero lines = []
lines_from s (suc count) lines = lines_of_session s lines ++ lines_from (suc s) count lines

-- each queue, from the one of this session on, is empty, with room for the replies to the lines of its session
abbrev pub HaveRooms : ℕ → List Line → List QueueParts → Type 0
HaveRooms s lines [] = Unit {0}
HaveRooms s lines (q ∷ qs) =
    (q.replies ≡ []) × (length (lines_of_session s lines) ≤ q.capacity) × HaveRooms (suc s) lines qs

-- there is room for the replies to these lines, of each session and of all sessions together
pub record HasRooms (lines : List Line) (queues : List QueueParts) (joined : QueueParts) : Type 0 where
  pub places : length queues ≡ session_places
  pub each : HaveRooms 0 lines queues
  pub empty : joined.replies ≡ []
  pub room : length (lines_from 0 session_places lines) ≤ joined.capacity
