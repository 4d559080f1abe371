-- A run in order: each line is answered before the next one is read. The replies follow from the
-- lines, the history before them and the places where memory ran out.
use Rattle.std.specs.Prelude.{◌≡◌, ℕ, ◌<◌, Bool, true, false, ◌&&◌, List, [], ◌∷◌, ◌++◌, count_by, Option, Some, None, Result, Ok, Err, nat_eq}
use Rattle.std.specs.List.{list_any}
use Rattle.edit_undo.specs.edit_rules.declared.acts.Breach.{Breach}
use Rattle.edit_undo.specs.edit_rules.Database.{DatabaseParts}
use Rattle.edit_undo.specs.edit_rules.declared.acts.Act.{Act}
use Rattle.session_core.specs.declared.line.Ask.{Ask}
use Rattle.session_core.specs.declared.line.Answer.TheVariants.{Refused}
use Rattle.session_core.specs.declared.line.Refusal.TheVariants as refusals
use Rattle.session_core.specs.declared.line.Request.{Request}
use Rattle.session_core.specs.declared.line.Request.TheVariants as requests
use Rattle.session_core.specs.declared.line.Line.{Line}
use Rattle.session_core.specs.declared.line.Reply.{Reply}
use Rattle.session_core.specs.declared.line.Command.TheVariants as commands
use Rattle.edit_undo.specs.edit_rules.Effects.{edited}
use Rattle.session_core.specs.Answers.{memory, reply_to, entry_of}
use Rattle.edit_undo.specs.declared.faults.NoUndo.{NoUndo}
use Rattle.session_core.specs.Steps.{State, present, is_full, act_event, taking_back, undo_step, edit_event, look_event, finish_event, finish_fails, opened_at, with_query, session_places}
use Rattle.session_core.specs.Worlds.{Trouble, untroubled, no_memory, store_full, disk_failed, passes_store, Each, NamesChange}
use Rattle.session_core.specs.Commands.{is_command_of}

-- the reply that an event gives to its line
abbrev pub given : Line → Option Reply → Reply
given l (Some reply) = reply
given l None = reply_to l None memory

-- a reply with its state
abbrev pub replied : Line → Option Reply × State → Reply × State
replied l (reply, st) = (given l reply, st)

-- what fails at a line: nothing; memory runs out, at its first event or where a query is answered; or the
-- disk, where there is a store and the line's edit would be accepted
pub data Outage : Type 0 where
  fine : Outage
  at_first : Outage
  at_last : Outage
  disk_fails : Outage

-- a query is put under way over the present state, and then answered
abbrev pub query_begun : State → Line → Ask → State
query_begun st l ask = with_query st l.session.0 (Some (opened_at st l ask))

-- the line of a query, over the present state
abbrev pub query_turn : State → Line → Ask → Outage → Reply × State
query_turn st l ask fine = replied l (finish_event (query_begun st l ask) l.line l.session commands.Query)
query_turn st l ask at_first = (reply_to l None memory, st)
query_turn st l ask at_last = replied l (finish_fails (query_begun st l ask) l.line l.session commands.Query)
query_turn st l ask disk_fails = replied l (finish_event (query_begun st l ask) l.line l.session commands.Query)

-- an event's reply and state, or want of memory, which changes nothing
abbrev pub unless_outage : State → Line → Outage → Option Reply × State → Reply × State
unless_outage st l fine made = replied l made
unless_outage st l at_first made = (reply_to l None memory, st)
unless_outage st l at_last made = (reply_to l None memory, st)
unless_outage st l disk_fails made = replied l made

-- What keeps the edit of a line from its step: an edit that would be accepted needs room in the store,
-- and then the disk.
abbrev pub stored_trouble : Bool → Bool → Trouble
stored_trouble true fails = store_full
stored_trouble false true = disk_failed
stored_trouble false false = untroubled

-- an act that the history or a rule refuses meets neither the store nor the disk
abbrev pub made_trouble : State → Line → Act → Bool → Bool → Result DatabaseParts Breach → Trouble
made_trouble st l act fails true made = untroubled
made_trouble st l act fails false (Err breach) = untroubled
made_trouble st l act fails false (Ok database) =
    stored_trouble (passes_store st.config st.entries (entry_of l act)) fails

-- the first flag says whether there is a store, the other whether the disk fails
abbrev pub edit_trouble : Bool → State → Line → Act → Bool → Trouble
edit_trouble false st l act fails = untroubled
edit_trouble true st l act fails =
    made_trouble st l act fails (is_full st.entries) (edited st.config st.entries act)

-- what an outage does to the act of a line
abbrev pub trouble_at : Bool → State → Line → Act → Outage → Trouble
trouble_at store st l act fine = edit_trouble store st l act false
trouble_at store st l act at_first = no_memory
trouble_at store st l act at_last = no_memory
trouble_at store st l act disk_fails = edit_trouble store st l act true

-- the act of a line, or what keeps it from its step
abbrev pub edit_outcome : State → Line → Act → Trouble → Option Reply × State
edit_outcome st l act untroubled = act_event st l act
edit_outcome st l act no_memory = (Some (reply_to l None memory), st)
edit_outcome st l act store_full = (Some (reply_to l (Some (present st)) (Refused refusals.StoreFull)), st)
edit_outcome st l act disk_failed = (Some (reply_to l None (Refused refusals.Disk)), st)

-- an act, over all entries before it
abbrev pub edit_turn : Bool → State → Line → Act → Outage → Reply × State
edit_turn store st l act outage = replied l (edit_outcome st l act (trouble_at store st l act outage))

-- an `undo`, by what takes its line back
abbrev pub undo_turn : Bool → State → Line → Option (Result Act NoUndo) → Outage → Reply × State
undo_turn store st l None outage = unless_outage st l outage (undo_step st l None)
undo_turn store st l (Some (Err fault)) outage = unless_outage st l outage (undo_step st l (Some (Err fault)))
undo_turn store st l (Some (Ok act)) outage = edit_turn store st l act outage

-- a request is answered over all entries before it; a `finish` over its look
abbrev pub request_turn : Bool → State → Line → Request → Outage → Reply × State
request_turn store st l (requests.Edit (Ok act)) outage = edit_turn store st l act outage
request_turn store st l (requests.Edit (Err fault)) outage =
    unless_outage st l outage (edit_event st l (requests.Edit (Err fault)))
request_turn store st l (requests.Undo earlier) outage =
    undo_turn store st l (taking_back st l.session.0 earlier) outage
request_turn store st l (requests.Query ask) outage = query_turn st l ask outage
request_turn store st l (requests.Look ask) outage = unless_outage st l outage (look_event st l (requests.Look ask))
request_turn store st l requests.Finish outage =
    unless_outage st l outage (finish_event st l.line l.session commands.Finish)
request_turn store st l (requests.After earlier) outage =
    unless_outage st l outage (look_event st l (requests.After earlier))

-- one line: its reply, and the state behind it; `store` says whether there is a store
abbrev pub one_turn : Bool → State → Line → Outage → Reply × State
one_turn store st l outage = request_turn store st l l.request outage

-- the replies to a list of lines, and the state behind them
abbrev pub in_turn : Bool → State → List Line → List Outage → List Reply × State
in_turn store st [] outages = ([], st)
in_turn store st (l ∷ ls) [] = ([], st)
in_turn store st (l ∷ ls) (outage ∷ outages) = (
  (one_turn store st l outage).0 ∷ (in_turn store (one_turn store st l outage).1 ls outages).0,
  (in_turn store (one_turn store st l outage).1 ls outages).1,
)

-- the disk fails at a line
abbrev pub is_disk_outage : Outage → Bool
is_disk_outage disk_fails = true
is_disk_outage outage = false

-- how often the disk may refuse an edit: never without a store
abbrev pub disk_outages : Bool → List Outage → ℕ
disk_outages store outages = count_by (λ outage. store && is_disk_outage outage) outages

-- Which lists of lines come in order: numbers rise, sessions have a place, a line has the command of
-- its request, an `after` names a line before it, and an `undo` one of its own session that asks for a change.

-- an `after` names a line that stands before it
abbrev pub NamesEarlier : List Line → Request → Type 0
NamesEarlier before (requests.After earlier) = list_any (λ (l : Line). nat_eq l.line earlier) before ≡ true
NamesEarlier before (requests.Edit given) = Unit {0}
NamesEarlier before (requests.Undo earlier) = Unit {0}
NamesEarlier before (requests.Query ask) = Unit {0}
NamesEarlier before (requests.Look ask) = Unit {0}
NamesEarlier before requests.Finish = Unit {0}

-- a line stands before this number
abbrev pub IsBelow : ℕ → Line → Type 0
IsBelow line other = other.line < line

-- a line may stand behind these
pub record ComesNext (before : List Line) (l : Line) : Type 0 where
  pub rises : Each (IsBelow l.line) before
  pub place : l.session.0 < session_places
  pub command : is_command_of l.command l.request ≡ true
  pub earlier : NamesEarlier before l.request
  pub names : NamesChange before l.session.0 l.request

-- each of these lines may stand behind those before it
abbrev pub ComeInOrder : List Line → List Line → Type 0
ComeInOrder before [] = Unit {0}
ComeInOrder before (l ∷ ls) = ComesNext before l × ComeInOrder (before ++ l ∷ []) ls
