-- The core's cache. This is no definition of the product: it says what the code keeps beside the state,
-- which saves it to work out bundles again, namely the database of the present, and that of each moment
-- that a look or a query under way is over.
use Rattle.std.specs.Prelude.{◌≡◌, ◌≤◌, ℕ, ◌+◌, Bool, true, false, List, [], ◌∷◌, ◌++◌, length, map, take, drop, Option, Some, None, Result, Ok, Err}
use Rattle.std.specs.Option.{option_map}
use Rattle.emu_names.specs.declared.kinds.SessionNo.{SessionNo}
use Rattle.emu_names.specs.declared.rules.Broken.{Broken}
use Rattle.edit_undo.specs.edit_rules.declared.acts.Breach.{Breach}
use Rattle.db_config.specs.declared.parts.ConfigParts.{ConfigParts}
use Rattle.textgrid.specs.declared.fault.GridFault.{GridFault}
use Rattle.edit_undo.specs.edit_rules.Database.{DatabaseParts}
use Rattle.edit_undo.specs.edit_rules.declared.acts.Act.{Act}
use Rattle.edit_undo.specs.edit_rules.declared.acts.Entry.{Entry}
use Rattle.session_core.specs.declared.line.Ask.{Ask}
use Rattle.session_core.specs.declared.line.Answer.{Answer}
use Rattle.session_core.specs.declared.line.Answer.TheVariants.{Done, Refused}
use Rattle.session_core.specs.declared.line.Refusal.TheVariants as refusals
use Rattle.session_core.specs.declared.line.Line.{Line}
use Rattle.session_core.specs.declared.line.Reply.{Reply}
use Rattle.session_core.specs.declared.line.Request.{Request}
use Rattle.session_core.specs.declared.kept_acts.KeptAct.{KeptAct}
use Rattle.session_core.specs.declared.slots.Held.{Held}
use Rattle.session_core.specs.declared.head.Head.{Head}
use Rattle.edit_undo.specs.edit_rules.Effects.{after, effect}
use Rattle.edit_undo.specs.declared.faults.NoUndo.{NoUndo}
use Rattle.edit_undo.specs.Inverse.{inverse_at}
use Rattle.session_core.specs.Undos.{kept_act, kept_behind, undo_refusal}
use Rattle.session_core.specs.Queries.{lacks_memory}
use Rattle.session_core.specs.Answers.{answer_over, memory, is_want_of_memory, grid_number, grid_answer, rule_refusal}
use Rattle.session_core.specs.Steps.{Opened, State, slot, put_slot, is_full, session_places, reply_of}

-- The state that the parts of a core stand for.

-- the query that is held, without its database
abbrev pub opened_by : Held → Opened
opened_by held = record { line = held.line; n = held.n; ask = held.ask }

-- what the sessions hold, without the databases
abbrev pub opened_in : List (Option Held) → List (Option Opened)
opened_in slots = map (option_map opened_by) slots

-- the state that the parts stand for
abbrev pub state_of : ConfigParts → List Entry → ℕ → List (Option Held) → List (Option Held) → State
state_of c history base looks queries =
    record { config = c; entries = history; base = base; looks = opened_in looks; queries = opened_in queries }

-- a query that is held has the database of the moment that its number names
pub record IsMoment (c : ConfigParts) (history : List Entry) (held : Held) : Type 0 where
  pub past : held.n ≤ length history
  pub database : after c (take held.n history) ≡ Ok held.database

-- what is held, if anything is, is of its moment
abbrev pub IsHeld : ConfigParts → List Entry → Option Held → Type 0
IsHeld c history None = Unit {0}
IsHeld c history (Some held) = IsMoment c history held

-- each session has a place, and what is held there has the database of its moment
pub record AreHeld (c : ConfigParts) (history : List Entry) (slots : List (Option Held)) : Type 0 where
  pub places : length slots ≡ session_places
  pub each : (s : ℕ) → IsHeld c history (slot slots s)

-- the database is that after the history, what is kept takes back each entry that came since the beginning, and what
-- is held is of its moment
pub record IsKept (c : ConfigParts) (history : List Entry) (base : ℕ) (database : DatabaseParts) (acts : List KeptAct)
    (looks queries : List (Option Held)) : Type 0 where
  pub present : after c history ≡ Ok database
  pub begun : base ≤ length history
  pub taking_back : acts ≡ kept_behind c (take base history) (drop base history)
  pub of_looks : AreHeld c history looks
  pub of_queries : AreHeld c history queries

-- the rule that a history breaks first, without the place of the edit in its entry
abbrev pub ruled : {A : Type 0} → Result A Breach → Result A Broken
ruled (Ok value) = Ok value
ruled (Err breach) = Err breach.rule

-- What one event does to the parts.

-- the line of this head that asks for this
abbrev pub head_line : Head → Request → Line
head_line head request = record { line = head.line; session = head.session; command = head.command; request = request }

-- the reply to a line of this head
abbrev pub head_reply : Head → Option ℕ → Answer → Reply
head_reply head n answer = reply_of head.line head.session n answer

-- the entry of an act of this head
abbrev pub head_entry : Head → Act → Entry
head_entry head act = record { session = head.session; line = head.line; act = act }

-- the reply, the history, the database and what is kept
abbrev pub Tried : Type 0
Tried = Reply × List Entry × DatabaseParts × List KeptAct

-- an act that leaves this database: its entry is put last, and what takes it back is kept
abbrev pub edit_accepted : Head → Act → List Entry → DatabaseParts → List KeptAct → DatabaseParts → Tried
edit_accepted head act history database acts next = (
  head_reply head (Some (length history + 1)) (Done head.command),
  history ++ head_entry head act ∷ [],
  next,
  acts ++ kept_act head.session head.line (inverse_at database act) ∷ [],
)

-- an act behind the rules: it is accepted, or the rule is told
abbrev pub edit_tried_made : Head → Act → List Entry → DatabaseParts → List KeptAct → Result DatabaseParts Breach → Tried
edit_tried_made head act history database acts (Ok next) = edit_accepted head act history database acts next
edit_tried_made head act history database acts (Err breach) =
    (head_reply head (Some (length history)) (Refused (rule_refusal head.command breach)), history, database, acts)

-- an act behind the limit of the history
abbrev pub edit_tried_step : Head → Act → List Entry → DatabaseParts → List KeptAct → Bool → Result DatabaseParts Breach → Tried
edit_tried_step head act history database acts true made =
    (head_reply head (Some (length history)) (Refused refusals.HistoryFull), history, database, acts)
edit_tried_step head act history database acts false made = edit_tried_made head act history database acts made

-- an act
abbrev pub edit_tried : Head → Act → List Entry → DatabaseParts → List KeptAct → Tried
edit_tried head act history database acts =
    edit_tried_step head act history database acts (is_full history) (effect database act)

-- an `undo`, by what takes its line back
abbrev pub undo_tried : Head → List Entry → DatabaseParts → List KeptAct → Option (Result Act NoUndo) → Tried
undo_tried head history database acts None =
    (head_reply head None (Refused refusals.NotAccepted), history, database, acts)
undo_tried head history database acts (Some (Err fault)) =
    (head_reply head None (Refused (undo_refusal fault)), history, database, acts)
undo_tried head history database acts (Some (Ok act)) = edit_tried head act history database acts

-- the reply to the fault of a line's TextGrid, where n entries stand
abbrev pub grid_told : Head → ℕ → GridFault → Reply
grid_told head n fault =
    head_reply head (grid_number n (is_want_of_memory fault)) (grid_answer fault (is_want_of_memory fault))

-- an act that was given, or the fault of a TextGrid
abbrev pub given_tried : Head → Result Act GridFault → List Entry → DatabaseParts → List KeptAct → Tried
given_tried head (Ok act) history database acts = edit_tried head act history database acts
given_tried head (Err fault) history database acts = (grid_told head (length history) fault, history, database, acts)

-- a query that holds this database
abbrev pub held_at : Head → Ask → ℕ → DatabaseParts → Held
held_at head ask n database = record { line = head.line; n = n; ask = ask; database = database }

-- a look: the reply, and the looks
abbrev pub looked : Head → Ask → ℕ → DatabaseParts → List (Option Held) → Option Held → Reply × List (Option Held)
looked head ask n database slots None =
    (head_reply head (Some n) (Done head.command), put_slot slots head.session.0 (Some (held_at head ask n database)))
looked head ask n database slots (Some held) = (head_reply head None (Refused refusals.LookOpen), slots)

-- the answer to a query that is held
abbrev pub held_answer : Held → Answer
held_answer held = answer_over held.database held.ask

-- the answer of an open look: the reply, and the looks; the flag says that memory ran out when its query was read
abbrev pub look_answer : ℕ → SessionNo → List (Option Held) → Held → Bool → Reply × List (Option Held)
look_answer line s slots held true = (reply_of line s None memory, slots)
look_answer line s slots held false = (reply_of line s (Some held.n) (held_answer held), put_slot slots s.0 None)

-- the answer of a look: the reply, and the looks
abbrev pub look_closed : ℕ → SessionNo → List (Option Held) → Option Held → Reply × List (Option Held)
look_closed line s slots None = (reply_of line s None (Refused refusals.NoLook), slots)
look_closed line s slots (Some held) = look_answer line s slots held (lacks_memory held.ask)

-- the reply to a query under way; the flag says that memory ran out when it was read
abbrev pub query_reply : ℕ → SessionNo → Held → Bool → Reply
query_reply line s held true = reply_of line s None memory
query_reply line s held false = reply_of line s (Some held.n) (held_answer held)

-- the answer of a query under way: the reply where there is one, and the queries
abbrev pub query_closed : ℕ → SessionNo → List (Option Held) → Option Held → Option Reply × List (Option Held)
query_closed line s slots None = (None, slots)
query_closed line s slots (Some held) =
    (Some (query_reply line s held (lacks_memory held.ask)), put_slot slots s.0 None)

-- the queries where memory runs out at the answer of one
abbrev pub query_dropped : SessionNo → List (Option Held) → Option Held → List (Option Held)
query_dropped s slots None = slots
query_dropped s slots (Some held) = put_slot slots s.0 None
