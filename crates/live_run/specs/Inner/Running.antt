-- Seats whose lanes run at once.
use Rattle.std.specs.Prelude.{◌≡◌, ℕ, ◌+◌, ◌-◌, ◌<◌, ◌≤◌, List, [], ◌∷◌, length, nat_lt, get_or, Result, if◌then◌else◌}
use Rattle.emu_names.specs.declared.shortage.Memory.{Memory}
use Rattle.live_seats.specs.session_core.declared.line.Line.{Line}
use Rattle.live_run.specs.declared.run.Ended.{Ended}
use Rattle.live_run.specs.Inner.Runs.{EndsLive}
use Rattle.live_run.specs.declared.lanes.LaneOf.{LaneOf}
use Rattle.live_seats.specs.declared.lane.Lane.{Lane}
use Rattle.live_seats.specs.declared.lane.Lane.TheVariants as lanes
use Rattle.live_seats.specs.session_core.Legal.{lines_in}
use mathlib.Core.List.{IsPrefix}
use Rattle.version_gate.specs.declared.entry.Entry.{Entry as Numbered}
use Rattle.version_gate.specs.Lists.{Numbered as IsNumbered}
use Rattle.live_seats.specs.session_core.Legal.{disk_replies, replies_in}
use Rattle.live_seats.specs.live_book.declared.published.Published.{Published}
use Rattle.live_seats.specs.live_book.Kept.{BookParts}
use Rattle.live_seats.specs.live_book.Live.{Opened, opening_of}
use Rattle.live_seats.specs.live_book.Inner.Live.{Count}
use Rattle.live_seats.specs.live_laws.Lanes.{AreLanes, Step, accepts, lane_lines, turns_of}
use Rattle.live_seats.specs.Inner.Seats.{IsSeat, SeatParts, lane_of, lines_of}

-- the lines of a seat, where so many of the first seats have a thread
abbrev pub thread_lines : ℕ → ℕ → ℕ → List Line → List Line
thread_lines seats seat made lines = if nat_lt seat made then lines_of (lanes.Seat seats seat) lines else []

-- A seat has answered no line, has room for those of this lane, and has one part
pub record IsFree (lane : Lane) (lines : List Line) (s : SeatParts) : Type 0 where
  pub steps : s.steps ≡ []
  pub room : length (lines_of lane lines) ≤ s.room
  pub part : s.count.parts ≡ 1

-- A seat has answered these lines, and has one part
pub record HasTaken (taken : List Line) (s : SeatParts) : Type 0 where
  pub lines : lines_in (turns_of s.steps) ≡ taken
  pub part : s.count.parts ≡ 1

-- these are free seats for all lanes of so many but the last one, in falling order: the first one stands last
abbrev pub AreFree : ℕ → List Line → List SeatParts → Type 0
AreFree seats lines free = (k : ℕ) (d : SeatParts) → k < length free
    → IsFree (lanes.Seat seats (seats - 2 - k)) lines (get_or free k d)

-- the parts of the shares of seats
abbrev pub parts_of : List SeatParts → ℕ
parts_of [] = 0
parts_of (s ∷ seats) = s.count.parts + parts_of seats

-- So many lanes have ended: so many of the first ones had a thread, and each has answered its lines
pub record HaveLanes (count : ℕ) (lines : List Line) (ran : List (List Step)) : Type 0 where
  pub number : length ran ≡ count
  pub made : ℕ
  pub few : made < count
  pub lanes : AreLanes (lane_of count made) lines 0 ran

-- each of these seats, from the first one on, has answered the lines of its lane
abbrev pub HaveTaken : ℕ → ℕ → List Line → List SeatParts → Type 0
HaveTaken seats made lines taken = (k : ℕ) (d : SeatParts) → k < length taken
    → lines_in (turns_of (get_or taken k d).steps) ≡ lane_lines (lane_of seats made) k lines

-- seats that have answered no line, of one part each
abbrev pub AreIdle : List SeatParts → Type 0
AreIdle seats = (k : ℕ) (d : SeatParts) → k < length seats → HasTaken [] (get_or seats k d)

-- a thread's promise is of this seat of so many, of these lines, and of what this cell tells
abbrev pub IsThread : ℕ → ℕ → List Line → ℕ → LaneOf → Type 0
IsThread start seats lines seat lane =
    (lane.start.now.id ≡ start) × (lane.lines.now ≡ lines) × (lane.seats ≡ seats) × (lane.seat ≡ seat)

-- What is left of a seat that has given its share back
pub record RestParts : Type 0 where
  pub list : List (Numbered Published)
  pub steps : List Step

-- this list, and these lines
abbrev pub rest_of : List (Numbered Published) → List Step → RestParts
rest_of list steps = record { list = list; steps = steps }

-- it is what is left of a seat
pub record IsRest (o : Opened) (rest : RestParts) : Type 0 where
  pub seat : SeatParts
  pub is : IsSeat o seat
  pub list : seat.list ≡ rest.list
  pub steps : seat.steps ≡ rest.steps

-- a count with what a seat counts
abbrev pub with_seat : Count → SeatParts → Count
with_seat count s = record {
  parts = count.parts + s.count.parts;
  accepted = count.accepted + accepts (turns_of s.steps);
  refused = count.refused + disk_replies (replies_in (turns_of s.steps));
}

-- how many edits were accepted in lanes
abbrev pub accepts_in : List (List Step) → ℕ
accepts_in [] = 0
accepts_in (steps ∷ ran) = accepts (turns_of steps) + accepts_in ran

-- how many answers in lanes were that the disk failed
abbrev pub refuses_in : List (List Step) → ℕ
refuses_in [] = 0
refuses_in (steps ∷ ran) = disk_replies (replies_in (turns_of steps)) + refuses_in ran

-- A seat has ended with these lines, and the list that it had seen begins this one
pub record HasEnded (o : Opened) (list : List (Numbered Published)) (steps : List Step) : Type 0 where
  pub seat : SeatParts
  pub is : IsSeat o seat
  pub lines : seat.steps ≡ steps
  pub begins : IsPrefix seat.list list

-- the list of a pass has a number that is at least this
abbrev pub HasSeen : ℕ → List (Numbered Published) → Type 0
HasSeen least list = (k : ℕ) × IsNumbered k list × (least ≤ k)

-- room for the lines of all lanes of so many but the last one, in falling order
abbrev pub HaveRoom : ℕ → List Line → List ℕ → Type 0
HaveRoom seats lines rooms = (k d : ℕ) → k < length rooms
    → length (lines_of (lanes.Seat seats (seats - 2 - k)) lines) ≤ get_or rooms k d

-- A seat has answered no line, and has one part
pub record IsFresh (s : SeatParts) : Type 0 where
  pub steps : s.steps ≡ []
  pub part : s.count.parts ≡ 1

-- a line's number is under this one
abbrev pub IsUnder : ℕ → Line → Type 0
IsUnder cells l = l.line < cells

-- a run has ended over a book that was at this opening
abbrev pub EndsOver : {D : Type 0} → (D → List ℕ → Type 0) → (D → ℕ) → Opened → List Line → Result Ended Memory
    → BookParts D → Type 0
EndsOver {D} may_leave faults o lines ended book =
    (old : BookParts D) → o ≡ opening_of faults old → EndsLive may_leave faults old lines ended book
