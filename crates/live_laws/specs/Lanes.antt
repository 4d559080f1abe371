-- Lanes: some sessions of a script each, whose lines are answered in the script's order while those of other lanes
-- are answered too.
use Rattle.std.specs.Prelude.{◌≡◌, ◌≢◌, ℕ, zero, suc, ◌<◌, ◌≤◌, Bool, List, [], ◌∷◌, ◌++◌, length, map, filter, flat_map, Option, Some, None, nat_eq}
use mathlib.Core.List.{IsPrefix}
use Rattle.db_config.specs.declared.parts.ConfigParts.{ConfigParts}
use Rattle.edit_rules.specs.declared.acts.Entry.{Entry}
use Rattle.session_core.specs.declared.line.Line.{Line}
use Rattle.session_core.specs.declared.line.Request.{Request}
use Rattle.session_core.specs.declared.line.Request.TheVariants as requests
use Rattle.session_core.specs.Steps.{Opened, session_places, slot}
use Rattle.session_core.specs.Worlds.{Turn, Each}
use Rattle.session_core.specs.Legal.{IsNamed, IsRightTurn, KeepsUp, Look, LooksFit, Mark, NeverFalls, ReplyFits, ReplyUndoes, UndosFit, accepted, accepting, lines_in, low_behind, of_session, open_behind}

-- A line that was answered: its turn; the number of entries that its lane had seen then, which is noted for the line;
-- and for an `after` the number that was noted for the line that it names
pub record Step : Type 0 where
  pub turn : Turn
  pub noted : ℕ
  pub heard : Option ℕ

-- the turns of steps
abbrev pub turns_of : List Step → List Turn
turns_of steps = map (λ st. st.turn) steps

-- a number, where there is one, is at most this
abbrev pub IsUpTo : ℕ → Option ℕ → Type 0
IsUpTo high None = Unit {0}
IsUpTo high (Some n) = n ≤ high

-- the noted numbers never fall from this one on, each is at least its reply's, and none is over the last
abbrev pub AreNoted : ℕ → ℕ → List Step → Type 0
AreNoted low high [] = low ≤ high
AreNoted low high (st ∷ steps) =
    (low ≤ st.noted) × IsUpTo st.noted st.turn.reply.n × AreNoted st.noted high steps

-- the number of an `after` is at least the one that was noted for the line that it names
abbrev pub HasHeard : Request → Option ℕ → Option ℕ → Type 0
HasHeard (requests.After earlier) (Some n) (Some noted) = noted ≤ n
HasHeard (requests.After earlier) (Some n) None = ⊥
HasHeard (requests.After earlier) None heard = Unit {0}
HasHeard (requests.Edit given) n heard = Unit {0}
HasHeard (requests.Undo earlier) n heard = Unit {0}
HasHeard (requests.Query ask) n heard = Unit {0}
HasHeard (requests.Look ask) n heard = Unit {0}
HasHeard requests.Finish n heard = Unit {0}

-- the same of a step
abbrev pub HasHeardStep : Step → Type 0
HasHeardStep st = HasHeard st.turn.line.request st.turn.reply.n st.heard

-- an entry's number is past this one
abbrev pub IsPast : ℕ → Mark → Type 0
IsPast low mark = low < mark.n

-- the number and the query of an open look
abbrev pub look_of : Option Opened → Option Look
look_of None = None
look_of (Some held) = Some (record { n = held.n; ask = held.ask })

-- an open look's number is one of those that the lane has seen
abbrev pub IsLookIn : ℕ → ℕ → Option Opened → Type 0
IsLookIn m high None = Unit {0}
IsLookIn m high (Some held) = (m ≤ held.n) × (held.n ≤ high)

-- the least number that the next reply of these turns' session may have
abbrev pub low_after : ℕ → List Turn → ℕ
low_after low [] = low
low_after low (t ∷ ts) = low_after (low_behind low t.line.request t.reply.n) ts

-- the look that is open behind these turns
abbrev pub look_after : Option Look → List Turn → Option Look
look_after held [] = held
look_after held (t ∷ ts) = look_after (open_behind held t.line.request t.reply.n) ts

-- What holds of a session in its lane: m entries stood before the run, and the lane has seen H
pub record IsSession (c : ConfigParts) (m : ℕ) (store : Bool) (H : List Entry) (turns : List Turn)
    (look : Option Opened) : Type 0 where
  pub never_falls : NeverFalls m turns
  pub from : m ≤ low_after m turns
  pub low : low_after m turns ≤ length H
  pub looks : LooksFit c H None turns
  pub held : look_after None turns ≡ look_of look
  pub look_in : IsLookIn m (length H) look
  pub undos : UndosFit c H store [] turns

-- What a lane keeps of the lines that it answered: m entries stood before the run, the lane has seen H, and these
-- looks are open. An accepted edit's entry is one that came in the run
pub record IsLane (c : ConfigParts) (m : ℕ) (store : Bool) (H : List Entry) (looks : List (Option Opened))
    (steps : List Step) : Type 0 where
  pub from : m ≤ length H
  pub named : Each IsNamed (turns_of steps)
  pub right : Each (IsRightTurn c m H store) (turns_of steps)
  pub fresh : Each (IsPast m) (accepted (turns_of steps))
  pub noted : AreNoted m (length H) steps
  pub heard : Each HasHeardStep steps
  pub places : length looks ≡ session_places
  pub sessions : (s : ℕ) → IsSession c m store H (of_session s (turns_of steps)) (slot looks s)

-- One line more is answered. The lane had seen one history, and has now seen one that goes on from it; these are the
-- marks of what it accepted before
pub record IsStep (c : ConfigParts) (m : ℕ) (store : Bool) (old H : List Entry) (looks new : List (Option Opened))
    (marks : List Mark) (l : Line) (st : Step) : Type 0 where
  pub goes_on : IsPrefix old H
  pub line : st.turn.line ≡ l
  pub place : l.session.0 < session_places
  pub named : IsNamed st.turn
  pub right : IsRightTurn c m H store st.turn
  pub fresh : Each (IsPast m) (accepting l l.request st.turn.reply.n st.turn.reply.answer)
  pub keeps : KeepsUp (length old) l.request st.turn.reply.n
  pub fits : ReplyFits c H (look_of (slot looks l.session.0)) l.request st.turn.reply.n st.turn.reply.answer
  pub opens : open_behind (look_of (slot looks l.session.0)) l.request st.turn.reply.n ≡ look_of (slot new l.session.0)
  pub look_in : IsLookIn m (length H) (slot new l.session.0)
  pub undoes : ReplyUndoes c H store marks l l.request st.turn.reply.n st.turn.reply.answer
  pub others : (s : ℕ) → l.session.0 ≢ s → slot new s ≡ slot looks s
  pub places : length new ≡ length looks
  pub noted : st.noted ≡ length H
  pub heard : HasHeard l.request st.turn.reply.n st.heard

-- The lines of lanes.

-- a line is one of a lane, where this gives the lane of each session
abbrev pub is_in_lane : (ℕ → ℕ) → ℕ → Line → Bool
is_in_lane lane_of lane l = nat_eq (lane_of l.session.0) lane

-- the lines of a lane
abbrev pub lane_lines : (ℕ → ℕ) → ℕ → List Line → List Line
lane_lines lane_of lane lines = filter (is_in_lane lane_of lane) lines

-- each of these lists of steps, from this lane on, has answered the lines of its lane
abbrev pub AreLanes : (ℕ → ℕ) → List Line → ℕ → List (List Step) → Type 0
AreLanes lane_of lines lane [] = Unit {0}
AreLanes lane_of lines lane (steps ∷ more) =
    (lines_in (turns_of steps) ≡ lane_lines lane_of lane lines) × AreLanes lane_of lines (suc lane) more

-- a lane kept what a lane keeps, beside a history that begins the whole one
pub record HasKept (c : ConfigParts) (m : ℕ) (store : Bool) (H : List Entry) (steps : List Step) : Type 0 where
  pub seen : List Entry
  pub begins : IsPrefix seen H
  pub looks : List (Option Opened)
  pub lane : IsLane c m store seen looks steps

-- the numbers that a step tells of lines are those of one table, by line
pub record Agrees (value : ℕ → ℕ) (st : Step) : Type 0 where
  pub noted : st.noted ≡ value st.turn.line.line
  pub heard : (earlier high : ℕ) → st.turn.line.request ≡ requests.After earlier → st.heard ≡ Some high
      → high ≡ value earlier

-- the steps of all lanes
abbrev pub all_steps : List (List Step) → List Step
all_steps lanes = flat_map (λ steps. steps) lanes

-- the turns of all lanes
abbrev pub all_turns : List (List Step) → List Turn
all_turns lanes = turns_of (all_steps lanes)

-- turns session by session, from this one on, for so many sessions
abbrev pub grouped_from : ℕ → ℕ → List Turn → List Turn
grouped_from s zero turns = []
grouped_from s (suc count) turns = of_session s turns ++ grouped_from (suc s) count turns

-- turns grouped by session in rising order; those of a session stay in their order
abbrev pub grouped : List Turn → List Turn
grouped turns = grouped_from 0 session_places turns

-- how many edits were accepted
abbrev pub accepts : List Turn → ℕ
accepts turns = length (accepted turns)
