-- What a live run answers.
use Rattle.std.specs.Prelude.{◌≡◌, ℕ, zero, suc, ◌+◌, List, [], ◌++◌, filter, Bool, nat_eq}
use Rattle.live_seats.specs.session_core.declared.line.Reply.{Reply}
use Rattle.live_seats.specs.session_core.Steps.{session_places}

-- a reply is one of a session
abbrev pub is_reply_of : ℕ → Reply → Bool
is_reply_of s r = nat_eq r.session.0 s

-- replies session by session, from this one on, for so many sessions
abbrev pub replies_from : ℕ → ℕ → List Reply → List Reply
replies_from s zero replies = []
replies_from s (suc count) replies = filter (is_reply_of s) replies ++ replies_from (suc s) count replies

-- replies are grouped by session in rising order
abbrev pub AreGrouped : List Reply → Type 0
AreGrouped replies = replies_from 0 session_places replies ≡ replies
