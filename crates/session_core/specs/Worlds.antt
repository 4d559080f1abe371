-- Whole runs of the core: which lists of events fit, and the lines and replies that they bring.
use Rattle.std.specs.Prelude.{◌≡◌, ◌≢◌, ℕ, ◌+◌, ◌<◌, Bool, true, false, ◌&&◌, not, List, [], ◌∷◌, ◌++◌, count_by, filter, Option, Some, None, Result, Ok, Err, nat_eq, nat_lt}
use Rattle.std.specs.List.{list_any}
use Rattle.emu_names.specs.declared.kinds.SessionNo.{SessionNo}
use Rattle.emu_names.specs.declared.limits.TheConstants.{STORE_BYTES}
use Rattle.db_config.specs.declared.parts.ConfigParts.{ConfigParts}
use Rattle.edit_undo.specs.edit_rules.declared.acts.Entry.{Entry}
use Rattle.session_core.specs.declared.event.Event.{Event}
use Rattle.session_core.specs.declared.event.Event.TheVariants as events
use Rattle.session_core.specs.declared.line.Command.TheVariants as commands
use Rattle.session_core.specs.declared.line.Request.{Request}
use Rattle.session_core.specs.declared.line.Request.TheVariants as requests
use Rattle.session_core.specs.declared.line.Line.{Line}
use Rattle.session_core.specs.declared.line.Answer.TheVariants.{Refused}
use Rattle.session_core.specs.declared.line.Refusal.{Refusal}
use Rattle.session_core.specs.declared.line.Refusal.TheVariants as refusals
use Rattle.session_core.specs.declared.line.Reply.{Reply}
use Rattle.edit_undo.specs.edit_rules.Database.{DatabaseParts}
use Rattle.edit_undo.specs.edit_rules.declared.acts.Act.{Act}
use Rattle.edit_undo.specs.edit_rules.Effects.{edited}
use Rattle.session_core.specs.Answers.{reply_to, entry_of}
use Rattle.session_core.specs.Commands.{is_change, is_command_of}
use Rattle.session_core.specs.Sizes.{store_size, entry_size}
use Rattle.edit_undo.specs.declared.faults.NoUndo.{NoUndo}
use Rattle.session_core.specs.Steps.{Opened, State, slot, taking_back, present, is_full, core_step, core_fails, start, session_places, Asker, by_look, by_query, by_none, asker_of}

-- a line with its reply
pub record Turn : Type 0 where
  pub line : Line
  pub reply : Reply

-- what may keep an event from its step: memory runs out; an accepted edit does not fit into the
-- store, or the disk does not take it
pub data Trouble : Type 0 where
  untroubled : Trouble
  no_memory : Trouble
  store_full : Trouble
  disk_failed : Trouble

-- an event, and what keeps it from its step
pub record Occurrence : Type 0 where
  pub event : Event
  pub trouble : Trouble

-- a run so far: the state, the lines that came, and the lines that were answered with their replies
pub record World : Type 0 where
  pub state : State
  pub lines : List Line
  pub turns : List Turn

-- an edit that the store or the disk refuses, by this answer, changes nothing
abbrev pub edit_kept_out : State → Event → Option ℕ → Refusal → Option Reply × State
edit_kept_out st (events.Edit l) n refusal = (Some (reply_to l n (Refused refusal)), st)
edit_kept_out st e n refusal = (None, st)

-- what an event makes of a state, or what keeps it from its step
abbrev pub outcome_of : State → Event → Trouble → Option Reply × State
outcome_of st e untroubled = core_step st e
outcome_of st e no_memory = core_fails st e
outcome_of st e store_full = edit_kept_out st e (Some (present st)) refusals.StoreFull
outcome_of st e disk_failed = edit_kept_out st e None refusals.Disk

-- what an occurrence makes of a state
abbrev pub outcome : State → Occurrence → Option Reply × State
outcome st m = outcome_of st m.event m.trouble

-- the line that a Finish brings with it
abbrev pub finish_line : ℕ → SessionNo → Line
finish_line line s = record { line = line; session = s; command = commands.Finish; request = requests.Finish }

-- the line that a query under way came with
abbrev pub query_line : SessionNo → Opened → Line
query_line s held =
    record { line = held.line; session = s; command = commands.Query; request = requests.Query held.ask }

-- a Finish brings the line of a `finish`; a query's came with its look
abbrev pub brought_by : ℕ → SessionNo → Asker → List Line
brought_by line s by_look = finish_line line s ∷ []
brought_by line s by_query = []
brought_by line s by_none = []

-- the lines that an event brings
abbrev pub brought : Event → List Line
brought (events.Edit l) = l ∷ []
brought (events.Look l) = l ∷ []
brought (events.Piece s) = []
brought (events.Finish line s command) = brought_by line s (asker_of command)

-- the line of the query under way that is answered
abbrev pub query_answered : SessionNo → Option Opened → List Line
query_answered s None = []
query_answered s (Some held) = query_line s held ∷ []

-- the line that a Finish answers
abbrev pub answered_by : State → ℕ → SessionNo → Asker → List Line
answered_by st line s by_look = finish_line line s ∷ []
answered_by st line s by_query = query_answered s (slot st.queries s.0)
answered_by st line s by_none = []

-- the line that an event answers
abbrev pub answered : State → Event → List Line
answered st (events.Edit l) = l ∷ []
answered st (events.Look l) = l ∷ []
answered st (events.Piece s) = []
answered st (events.Finish line s command) = answered_by st line s (asker_of command)

-- the turns of a reply
abbrev pub turns_of : List Line → Option Reply → List Turn
turns_of [] reply = []
turns_of (l ∷ ls) None = []
turns_of (l ∷ ls) (Some reply) = record { line = l; reply = reply } ∷ []

-- one event more
abbrev pub happens : World → Occurrence → World
happens w m = record {
  state = (outcome w.state m).1;
  lines = w.lines ++ brought m.event;
  turns = w.turns ++ turns_of (answered w.state m.event) (outcome w.state m).0;
}

-- one event after another
abbrev pub run : World → List Occurrence → World
run w [] = w
run w (m ∷ ms) = run (happens w m) ms

-- before the first event
abbrev pub opening_world : ConfigParts → List Entry → World
opening_world c history = record { state = start c history; lines = []; turns = [] }

-- Which events fit. The lines of a session rise, no number stands in two sessions, a query under
-- way is answered before its session's next line, an `after` stands behind the reply of its line, and an `undo` behind
-- its own, which is one of its session that asks for a change.

-- P holds of each element
abbrev pub Each : {A : Type 0} → (A → Type 0) → List A → Type 0
Each P [] = Unit {0}
Each P (x ∷ xs) = P x × Each P xs

-- a new line's number, beside a line that came before
pub record IsBehind (line session : ℕ) (other : Line) : Type 0 where
  pub own : other.session.0 ≡ session → other.line < line
  pub others : other.session.0 ≢ session → other.line ≢ line

-- a line may come next
pub record IsNext (w : World) (line session : ℕ) : Type 0 where
  pub place : session < session_places
  pub idle : slot w.state.queries session ≡ None
  pub behind : Each (IsBehind line session) w.lines

-- the line of a number is answered
abbrev pub is_answered : ℕ → List Turn → Bool
is_answered line turns = list_any (λ t. nat_eq t.line.line line) turns

-- an `after` names an answered line
abbrev pub RequestFits : World → Request → Type 0
RequestFits w (requests.After earlier) = is_answered earlier w.turns ≡ true
RequestFits w (requests.Edit given) = Unit {0}
RequestFits w (requests.Undo earlier) = Unit {0}
RequestFits w (requests.Query ask) = Unit {0}
RequestFits w (requests.Look ask) = Unit {0}
RequestFits w requests.Finish = Unit {0}

-- a line is this one of this session, and asks for a change
abbrev pub is_change_at : ℕ → ℕ → Line → Bool
is_change_at session line l = nat_eq l.session.0 session && nat_eq l.line line && is_change l.command

-- an `undo` names a line of its session that stands before it and asks for a change
abbrev pub NamesChange : List Line → ℕ → Request → Type 0
NamesChange before session (requests.Undo earlier) = list_any (is_change_at session earlier) before ≡ true
NamesChange before session (requests.Edit given) = Unit {0}
NamesChange before session (requests.Query ask) = Unit {0}
NamesChange before session (requests.Look ask) = Unit {0}
NamesChange before session requests.Finish = Unit {0}
NamesChange before session (requests.After earlier) = Unit {0}

-- what an Edit event may bring
abbrev pub is_edit : Request → Bool
is_edit (requests.Edit given) = true
is_edit (requests.Undo earlier) = true
is_edit (requests.Query ask) = false
is_edit (requests.Look ask) = false
is_edit requests.Finish = false
is_edit (requests.After line) = false

-- what a Look event may bring
abbrev pub is_looking : Request → Bool
is_looking (requests.Edit given) = false
is_looking (requests.Undo earlier) = false
is_looking (requests.Query ask) = true
is_looking (requests.Look ask) = true
is_looking requests.Finish = false
is_looking (requests.After line) = true

-- an Edit may come next
pub record EditFits (w : World) (l : Line) : Type 0 where
  pub next : IsNext w l.line l.session.0
  pub kind : is_edit l.request ≡ true
  pub command : is_command_of l.command l.request ≡ true
  pub names : NamesChange w.lines l.session.0 l.request

-- a Look may come next
pub record LookFits (w : World) (l : Line) : Type 0 where
  pub next : IsNext w l.line l.session.0
  pub kind : is_looking l.request ≡ true
  pub command : is_command_of l.command l.request ≡ true
  pub answered : RequestFits w l.request

-- the session's query under way has this line
abbrev pub IsUnderWay : ℕ → Option Opened → Type 0
IsUnderWay line None = ⊥
IsUnderWay line (Some held) = held.line ≡ line

-- the query under way may be answered
pub record QueryFits (w : World) (line session : ℕ) : Type 0 where
  pub place : session < session_places
  pub held : IsUnderWay line (slot w.state.queries session)

-- a Finish fits where it is a `finish` that may come next, or one of the query under way
abbrev pub FinishFits : World → ℕ → SessionNo → Asker → Type 0
FinishFits w line s by_look = IsNext w line s.0
FinishFits w line s by_query = QueryFits w line s.0
FinishFits w line s by_none = ⊥

-- an event may come next
abbrev pub Fits : World → Event → Type 0
Fits w (events.Edit l) = EditFits w l
Fits w (events.Look l) = LookFits w l
Fits w (events.Piece s) = s.0 < session_places
Fits w (events.Finish line s command) = FinishFits w line s (asker_of command)

-- the store has no room for an entry behind a history: a frame has a gate byte and four bytes of length, and a gate
-- closes the store
abbrev pub passes_store : ConfigParts → List Entry → Entry → Bool
passes_store c history entry = nat_lt STORE_BYTES (store_size c history + 6 + entry_size entry)

-- the act of a line would be accepted, and there is a store that has no room for its entry
pub record IsOverStore (store : Bool) (st : State) (l : Line) (act : Act) : Type 0 where
  pub stored : store ≡ true
  pub room : is_full st.entries ≡ false
  pub database : DatabaseParts
  pub made : edited st.config st.entries act ≡ Ok database
  pub passes : passes_store st.config st.entries (entry_of l act) ≡ true

-- the act that takes a line back, where there is one
abbrev pub act_back : Option (Result Act NoUndo) → Option Act
act_back None = None
act_back (Some (Ok act)) = Some act
act_back (Some (Err fault)) = None

-- the act that a request of a session wants over a state: its own, or the one that takes back the line of an `undo`
abbrev pub act_wanted : State → ℕ → Request → Option Act
act_wanted st session (requests.Edit (Ok act)) = Some act
act_wanted st session (requests.Edit (Err fault)) = None
act_wanted st session (requests.Undo earlier) = act_back (taking_back st session earlier)
act_wanted st session (requests.Query ask) = None
act_wanted st session (requests.Look ask) = None
act_wanted st session requests.Finish = None
act_wanted st session (requests.After earlier) = None

-- the store refuses the act that is wanted
abbrev pub StoreRefusesAct : Bool → State → Line → Option Act → Type 0
StoreRefusesAct store st l None = ⊥
StoreRefusesAct store st l (Some act) = IsOverStore store st l act

-- the store refuses the edit of an event
abbrev pub StoreRefuses : Bool → State → Event → Type 0
StoreRefuses store st (events.Edit l) = StoreRefusesAct store st l (act_wanted st l.session.0 l.request)
StoreRefuses store st (events.Look l) = ⊥
StoreRefuses store st (events.Piece s) = ⊥
StoreRefuses store st (events.Finish line s command) = ⊥

-- the disk may refuse the act that is wanted, where there is a store; a line whose TextGrid has a fault never
-- reaches it, nor does an `undo` for which no act is wanted
abbrev pub DiskMayRefuseAct : Bool → Option Act → Type 0
DiskMayRefuseAct store None = ⊥
DiskMayRefuseAct store (Some act) = store ≡ true

-- the disk may refuse the edit of an event
abbrev pub DiskMayRefuse : Bool → State → Event → Type 0
DiskMayRefuse store st (events.Edit l) = DiskMayRefuseAct store (act_wanted st l.session.0 l.request)
DiskMayRefuse store st (events.Look l) = ⊥
DiskMayRefuse store st (events.Piece s) = ⊥
DiskMayRefuse store st (events.Finish line s command) = ⊥

-- what keeps an event from its step may do so; `store` says whether there is a store
abbrev pub TroubleFits : Bool → State → Event → Trouble → Type 0
TroubleFits store st e untroubled = Unit {0}
TroubleFits store st e no_memory = Unit {0}
TroubleFits store st e store_full = StoreRefuses store st e
TroubleFits store st e disk_failed = DiskMayRefuse store st e

-- an occurrence may come next
pub record OccurrenceFits (store : Bool) (w : World) (m : Occurrence) : Type 0 where
  pub event : Fits w m.event
  pub trouble : TroubleFits store w.state m.event m.trouble

-- each of these may come next in turn
abbrev pub AllFit : Bool → World → List Occurrence → Type 0
AllFit store w [] = Unit {0}
AllFit store w (m ∷ ms) = OccurrenceFits store w m × AllFit store (happens w m) ms

-- whether it is the disk that failed
abbrev pub is_disk_failed : Trouble → Bool
is_disk_failed disk_failed = true
is_disk_failed trouble = false

-- how many of these events the disk kept from their step
abbrev pub disk_failures : List Occurrence → ℕ
disk_failures ms = count_by (λ (m : Occurrence). is_disk_failed m.trouble) ms

-- The script of a run: the lines that came, but for a query that is still under way.

-- whether the query under way, if there is one, came with this line
abbrev pub is_waiting : Line → Option Opened → Bool
is_waiting l None = false
is_waiting l (Some held) = nat_eq held.line l.line

-- whether a line is other than that of its session's query under way
abbrev pub is_done : State → Line → Bool
is_done st l = not (is_waiting l (slot st.queries l.session.0))

-- the lines that came, but for queries under way
abbrev pub lines_done : World → List Line
lines_done w = filter (is_done w.state) w.lines
