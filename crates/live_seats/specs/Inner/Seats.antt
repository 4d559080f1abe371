-- Lanes as the code runs them: what each has seen, counted and answered.
use Rattle.std.specs.Prelude.{◌≡◌, ℕ, ◌+◌, ◌<◌, ◌≤◌, ◌%◌, min, List, [], ◌∷◌, ◌++◌, length, filter, Bool, true, ◌&&◌, Option, nat_eq, nat_le}
use mathlib.Core.List.{IsPrefix}
use Rattle.edit_undo.specs.edit_rules.declared.acts.Entry.{Entry}
use Rattle.version_gate.specs.declared.entry.Entry.{Entry as Numbered}
use Rattle.version_gate.specs.Lists.{Numbered as IsNumbered}
use Rattle.query_workers.specs.session_core.declared.kept_acts.KeptAct.{KeptAct}
use Rattle.query_workers.specs.session_core.declared.line.Line.{Line}
use Rattle.query_workers.specs.session_core.declared.line.Reply.{Reply}
use Rattle.query_workers.specs.session_core.declared.line.Request.{Request}
use Rattle.query_workers.specs.session_core.declared.line.Request.TheVariants as requests
use Rattle.query_workers.specs.session_core.declared.slots.Held.{Held}
use Rattle.query_workers.specs.session_core.Commands.{is_command_of}
use Rattle.query_workers.specs.session_core.Inner.Kept.{AreHeld, opened_in}
use Rattle.query_workers.specs.session_core.Inner.Undone.{AreKept}
use Rattle.query_workers.specs.session_core.Legal.{Mark, accepted, accepting, disk_replies, makes_entry, replies_in}
use Rattle.query_workers.specs.session_core.Steps.{session_places, slot}
use Rattle.query_workers.specs.session_core.Worlds.{Turn}
use Rattle.live_book.specs.declared.published.Published.{Published}
use Rattle.live_book.specs.Live.{Opened, Shows}
use Rattle.live_book.specs.Inner.Live.{Count}
use Rattle.live_seats.specs.declared.lane.Lane.{Lane}
use Rattle.live_seats.specs.declared.lane.Lane.TheVariants as lanes
use Rattle.live_laws.specs.Lanes.{IsLane, IsLookIn, IsStep, Step, accepts, turns_of}

-- what a lane keeps of a line that it answered: so many entries it had seen, and this was heard of the line that an
-- `after` names
abbrev pub answered_step : Line → Reply → ℕ → Option ℕ → Step
answered_step l reply noted heard = record { turn = record { line = l; reply = reply }; noted = noted; heard = heard }

-- What contracts see of a seat: the list that its pass has, what its share counts, the looks that its sessions hold
-- open, what takes back the changes that it accepted, the lines that it answered, and for how many more it has room
pub record SeatParts : Type 0 where
  pub list : List (Numbered Published)
  pub count : Count
  pub looks : List (Option Held)
  pub acts : List KeptAct
  pub steps : List Step
  pub room : ℕ

-- the parts of a seat
abbrev pub seat_of : List (Numbered Published) → Count → List (Option Held) → List KeptAct → List Step → ℕ → SeatParts
seat_of list count looks acts steps room =
    record { list = list; count = count; looks = looks; acts = acts; steps = steps; room = room }

-- beside a history that its list shows, a seat keeps what a lane keeps, its looks have the databases of their
-- moments, and what it keeps to take lines back takes back the entries of the lines that it accepted
pub record KeepsLane (o : Opened) (history : List Entry) (looks : List (Option Held)) (acts : List KeptAct)
    (steps : List Step) : Type 0 where
  pub held : AreHeld o.config history looks
  pub kept : AreKept o.config history (accepted (turns_of steps)) acts
  pub lane : IsLane o.config (length o.entries) o.stored history (opened_in looks) steps

-- What a seat always keeps. What history its list shows is not known before the book is settled, so what it keeps is
-- said of each
pub record IsSeat (o : Opened) (seat : SeatParts) : Type 0 where
  pub part : 0 < seat.count.parts
  pub places : length seat.looks ≡ session_places
  pub number : ℕ
  pub numbered : IsNumbered number seat.list
  pub past : length o.entries ≤ number
  pub keeps : (history : List Entry) → Shows o history seat.list → KeepsLane o history seat.looks seat.acts seat.steps
  pub accepted : accepts (turns_of seat.steps) ≡ seat.count.accepted
  pub refused : disk_replies (replies_in (turns_of seat.steps)) ≡ seat.count.refused

-- an edit that was accepted, as a number
abbrev pub accepts_at : Turn → ℕ
accepts_at t = accepts (t ∷ [])

-- an answer that the disk failed, as a number
abbrev pub disk_at : Turn → ℕ
disk_at t = disk_replies (replies_in (t ∷ []))

-- a count behind the answer of a turn
abbrev pub counted_by : Count → Turn → Count
counted_by count t = record {
  parts = count.parts;
  accepted = count.accepted + accepts_at t;
  refused = count.refused + disk_at t;
}

-- Histories that the lists of a pass show before a line and behind it, and the looks that are open before it: they have
-- the databases of their moments, which came in the run. These are the marks of what was accepted before, and what takes
-- it back
pub record SeesMore (o : Opened) (old new : List (Numbered Published)) (looks : List (Option Held))
    (marks : List Mark) (acts : List KeptAct) (before history : List Entry) : Type 0 where
  pub shown_before : Shows o before old
  pub shown_now : Shows o history new
  pub held : AreHeld o.config before looks
  pub kept : AreKept o.config before marks acts
  pub looks_in : (s : ℕ) → IsLookIn (length o.entries) (length before) (slot (opened_in looks) s)

-- behind a line the looks have the databases of their moments, and what is kept takes back what was accepted, these
-- marks and the line's own
pub record KeepsMore (o : Opened) (history : List Entry) (looks : List (Option Held)) (marks : List Mark)
    (acts : List KeptAct) (l : Line) (reply : Reply) : Type 0 where
  pub held : AreHeld o.config history looks
  pub kept : AreKept o.config history (marks ++ accepting l l.request reply.n reply.answer) acts

-- What a line does to the parts of a seat: the pass's list goes on, the share counts the answer, and beside whatever
-- histories the lists show, it is a step of a lane
pub record TakesLine (o : Opened) (old new : List (Numbered Published)) (count count_now : Count)
    (looks looks_now : List (Option Held)) (acts acts_now : List KeptAct) (l : Line) (st : Step) : Type 0 where
  pub line : st.turn.line ≡ l
  pub learnt : IsPrefix old new
  pub counted : count_now ≡ counted_by count st.turn
  pub places : length looks_now ≡ length looks
  pub step : (marks : List Mark) (before history : List Entry) → SeesMore o old new looks marks acts before history
      → IsStep o.config (length o.entries) o.stored before history (opened_in looks) (opened_in looks_now) marks l st
      × KeepsMore o history looks_now marks acts_now l st.turn.reply

-- a seat behind one line more
abbrev pub IsBehindLine : SeatParts → Line → SeatParts → Type 0
IsBehindLine old l new = (st : Step) × (st.turn.line ≡ l) × (new.steps ≡ old.steps ++ st ∷ [])
    × (new.room + 1 ≡ old.room) × (new.count.parts ≡ old.count.parts)

-- a line that an `after` names has a cell in a row of so many
abbrev pub NamesCell : ℕ → Request → Type 0
NamesCell cells (requests.After earlier) = earlier < cells
NamesCell cells (requests.Edit given) = Unit {0}
NamesCell cells (requests.Undo earlier) = Unit {0}
NamesCell cells (requests.Query ask) = Unit {0}
NamesCell cells (requests.Look ask) = Unit {0}
NamesCell cells requests.Finish = Unit {0}

-- a line can be answered by a lane that has a row of so many cells
pub record IsAsked (cells : ℕ) (l : Line) : Type 0 where
  pub place : l.session.0 < session_places
  pub command : is_command_of l.command l.request ≡ true
  pub cell : l.line < cells
  pub named : NamesCell cells l.request

-- Which lane a session is in. There are so many seats, and so many threads were made, one for each of the first seats;
-- all other sessions are in the last lane, which is the caller's.
abbrev pub lane_of : ℕ → ℕ → ℕ → ℕ
lane_of seats made session = min (session % seats) made

-- a line is one of a lane: of the lane of a seat, if its session's number leaves the seat's when it is divided by the
-- number of seats; of the rest, if that seat has no thread
abbrev pub takes : Lane → Line → Bool
takes (lanes.Seat seats seat) l = nat_eq (l.session.0 % seats) seat
takes (lanes.Rest seats made) l = nat_le made (l.session.0 % seats)

-- the lines of a lane
abbrev pub lines_of : Lane → List Line → List Line
lines_of lane lines = filter (takes lane) lines

-- a line is one of a lane, and asks for a change that may be accepted
abbrev pub asks_change : Lane → Line → Bool
asks_change lane l = takes lane l && makes_entry l.request

-- the lines of a lane that ask for a change
abbrev pub changes_of : Lane → List Line → List Line
changes_of lane lines = filter (asks_change lane) lines

-- the cells of a row are the ones that a type names, each by its place
abbrev pub AreCells : List ℕ → List ℕ → Type 0
AreCells named cells = cells ≡ named
