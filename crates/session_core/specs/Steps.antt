-- The steps of the core: what an event makes of a state, and the reply that it may give.
use Rattle.std.specs.Prelude.{ℕ, zero, suc, ◌+◌, Bool, true, false, List, [], ◌∷◌, ◌++◌, length, take, drop, replicate, Option, Some, None, Result, Ok, Err, nat_le}
use Rattle.emu_names.specs.declared.kinds.SessionNo.{SessionNo}
use Rattle.emu_names.specs.declared.limits.TheConstants.{HISTORY_EDITS, SESSIONS}
use Rattle.edit_undo.specs.edit_rules.declared.acts.Breach.{Breach}
use Rattle.db_config.specs.declared.parts.ConfigParts.{ConfigParts}
use Rattle.edit_undo.specs.edit_rules.Database.{DatabaseParts}
use Rattle.edit_undo.specs.edit_rules.declared.acts.Act.{Act}
use Rattle.edit_undo.specs.edit_rules.declared.acts.Entry.{Entry}
use Rattle.session_core.specs.declared.event.Event.{Event}
use Rattle.session_core.specs.declared.event.Event.TheVariants as events
use Rattle.session_core.specs.declared.line.Command.{Command}
use Rattle.session_core.specs.declared.line.Command.TheVariants as commands
use Rattle.session_core.specs.declared.line.Ask.{Ask}
use Rattle.session_core.specs.declared.line.Answer.{Answer}
use Rattle.session_core.specs.declared.line.Answer.TheVariants.{Done, Refused}
use Rattle.session_core.specs.declared.line.Refusal.TheVariants as refusals
use Rattle.session_core.specs.declared.line.Request.{Request}
use Rattle.session_core.specs.declared.line.Request.TheVariants as requests
use Rattle.session_core.specs.declared.line.Line.{Line}
use Rattle.session_core.specs.declared.line.Reply.{Reply}
use Rattle.edit_undo.specs.edit_rules.Effects.{edited}
use Rattle.edit_undo.specs.declared.faults.NoUndo.{NoUndo}
use Rattle.session_core.specs.declared.kept_acts.KeptAct.{KeptAct}
use Rattle.session_core.specs.Queries.{lacks_memory}
use Rattle.session_core.specs.Undos.{kept_behind, latest_of, undo_refusal}
use Rattle.session_core.specs.Answers.{answer_at, memory, reply_to, grid_reply, entry_of, rule_refusal}

-- a query that holds the state after the first n entries, and the line that it came from
pub record Opened : Type 0 where
  pub line : ℕ
  pub n : ℕ
  pub ask : Ask

-- the configuration, the history, how many entries it began with, and for each session its open look and its
-- query under way
pub record State : Type 0 where
  pub config : ConfigParts
  pub entries : List Entry
  pub base : ℕ
  pub looks : List (Option Opened)
  pub queries : List (Option Opened)

-- a script has the sessions from 1 on, and 0 is the program itself; no other session has a place
abbrev pub session_places : ℕ
session_places = SESSIONS + 1

-- the state of a configuration and a history, with no look open
abbrev pub start : ConfigParts → List Entry → State
start c history = record {
  config = c;
  entries = history;
  base = length history;
  looks = replicate session_places None;
  queries = replicate session_places None;
}

-- what stands at a session's place
abbrev pub slot : {A : Type 0} → List (Option A) → ℕ → Option A
slot [] s = None
slot (x ∷ xs) zero = x
slot (x ∷ xs) (suc s) = slot xs s

-- with this at a session's place
abbrev pub put_slot : {A : Type 0} → List (Option A) → ℕ → Option A → List (Option A)
put_slot [] s v = []
put_slot (x ∷ xs) zero v = v ∷ xs
put_slot (x ∷ xs) (suc s) v = x ∷ put_slot xs s v

-- a state with this look at a session's place
abbrev pub with_look : State → ℕ → Option Opened → State
with_look st s v =
    record { config = st.config; entries = st.entries; base = st.base; looks = put_slot st.looks s v; queries = st.queries }

-- a state with this query under way at a session's place
abbrev pub with_query : State → ℕ → Option Opened → State
with_query st s v =
    record { config = st.config; entries = st.entries; base = st.base; looks = st.looks; queries = put_slot st.queries s v }

-- a state with one entry more
abbrev pub with_entry : State → Entry → State
with_entry st e =
    record { config = st.config; entries = st.entries ++ e ∷ []; base = st.base; looks = st.looks; queries = st.queries }

-- the number of entries that the present state is after
abbrev pub present : State → ℕ
present st = length st.entries

-- An edit: an act, which is a list of edits or an addition to the configuration.

-- whether a history has no room for one more entry
abbrev pub is_full : List Entry → Bool
is_full history = nat_le HISTORY_EDITS (length history)

-- an act behind the limit of the history: it is accepted, or the rule that it breaks is told
abbrev pub edit_made : State → Line → Act → Result DatabaseParts Breach → Option Reply × State
edit_made st l act (Ok database) =
    (Some (reply_to l (Some (present st + 1)) (Done l.command)), with_entry st (entry_of l act))
edit_made st l act (Err breach) =
    (Some (reply_to l (Some (present st)) (Refused (rule_refusal l.command breach))), st)

-- an act: a full history comes before the rules
abbrev pub edit_step : State → Line → Act → Bool → Result DatabaseParts Breach → Option Reply × State
edit_step st l act true made = (Some (reply_to l (Some (present st)) (Refused refusals.HistoryFull)), st)
edit_step st l act false made = edit_made st l act made

-- an act over the present state
abbrev pub act_event : State → Line → Act → Option Reply × State
act_event st l act = edit_step st l act (is_full st.entries) (edited st.config st.entries act)

-- An `undo`.

-- what takes back each entry that came since the beginning
abbrev pub kept_in : State → List KeptAct
kept_in st = kept_behind st.config (take st.base st.entries) (drop st.base st.entries)

-- what takes back a line of a session, where it was accepted
abbrev pub taking_back : State → ℕ → ℕ → Option (Result Act NoUndo)
taking_back st session line = latest_of session line (kept_in st)

-- an `undo`, by what takes its line back: a line that was not accepted is none to take back, and then what takes it
-- back is an act as any other
abbrev pub undo_step : State → Line → Option (Result Act NoUndo) → Option Reply × State
undo_step st l None = (Some (reply_to l None (Refused refusals.NotAccepted)), st)
undo_step st l (Some (Err fault)) = (Some (reply_to l None (Refused (undo_refusal fault))), st)
undo_step st l (Some (Ok act)) = act_event st l act

-- A look.

-- a query over the present state
abbrev pub opened_at : State → Line → Ask → Opened
opened_at st l ask = record { line = l.line; n = present st; ask = ask }

-- a `look` opens, unless one is open
abbrev pub look_step : State → Line → Ask → Option Opened → Option Reply × State
look_step st l ask None =
    (Some (reply_to l (Some (present st)) (Done l.command)), with_look st l.session.0 (Some (opened_at st l ask)))
look_step st l ask (Some held) = (Some (reply_to l None (Refused refusals.LookOpen)), st)

-- a Look of a line
abbrev pub look_event : State → Line → Request → Option Reply × State
look_event st l (requests.Look ask) = look_step st l ask (slot st.looks l.session.0)
look_event st l (requests.Query ask) = (None, with_query st l.session.0 (Some (opened_at st l ask)))
look_event st l (requests.After earlier) = (Some (reply_to l (Some (present st)) (Done l.command)), st)
look_event st l (requests.Edit given) = (None, st)
look_event st l (requests.Undo earlier) = (None, st)
look_event st l requests.Finish = (None, st)

-- an Edit of a line: the fault of its TextGrid comes first, and changes nothing
abbrev pub edit_event : State → Line → Request → Option Reply × State
edit_event st l (requests.Edit (Ok act)) = act_event st l act
edit_event st l (requests.Edit (Err fault)) = (Some (grid_reply l (present st) fault), st)
edit_event st l (requests.Undo earlier) = undo_step st l (taking_back st l.session.0 earlier)
edit_event st l (requests.Query ask) = (None, st)
edit_event st l (requests.Look ask) = (None, st)
edit_event st l requests.Finish = (None, st)
edit_event st l (requests.After earlier) = (None, st)

-- The answer of an open look or of a query under way.

-- a reply to a line of a session
abbrev pub reply_of : ℕ → SessionNo → Option ℕ → Answer → Reply
reply_of line session n answer = record { line = line; session = session; n = n; answer = answer }

-- an open look is answered over the state of its moment, and closed; the flag says that memory ran out when
-- its query was read, which is answered as such, with no number, and leaves it open
abbrev pub look_answered : State → ℕ → SessionNo → Opened → Bool → Option Reply × State
look_answered st line s held true = (Some (reply_of line s None memory), st)
look_answered st line s held false =
    (Some (reply_of line s (Some held.n) (answer_at st.config st.entries held.n held.ask)), with_look st s.0 None)

-- a `finish` answers the open look
abbrev pub finish_step : State → ℕ → SessionNo → Option Opened → Option Reply × State
finish_step st line s None = (Some (reply_of line s None (Refused refusals.NoLook)), st)
finish_step st line s (Some held) = look_answered st line s held (lacks_memory held.ask)

-- a query under way is answered over the state of its moment, and closed; where memory ran out when it was
-- read, that is answered, with no number, and it is closed too
abbrev pub way_answered : State → ℕ → SessionNo → Opened → Bool → Option Reply × State
way_answered st line s held true = (Some (reply_of line s None memory), with_query st s.0 None)
way_answered st line s held false =
    (Some (reply_of line s (Some held.n) (answer_at st.config st.entries held.n held.ask)), with_query st s.0 None)

-- the query under way, where there is one
abbrev pub query_step : State → ℕ → SessionNo → Option Opened → Option Reply × State
query_step st line s None = (None, st)
query_step st line s (Some held) = way_answered st line s held (lacks_memory held.ask)

-- what a Finish of a command answers: its session's open look, its query under way, or nothing
pub data Asker : Type 0 where
  by_look : Asker
  by_query : Asker
  by_none : Asker

-- a `finish` asks for the open look, and a query for itself; no other command asks by a Finish
abbrev pub asker_of : Command → Asker
asker_of commands.Finish = by_look
asker_of commands.Query = by_query
asker_of command = by_none

-- a Finish, by what it answers
abbrev pub finish_by : State → ℕ → SessionNo → Asker → Option Reply × State
finish_by st line s by_look = finish_step st line s (slot st.looks s.0)
finish_by st line s by_query = query_step st line s (slot st.queries s.0)
finish_by st line s by_none = (None, st)

-- a Finish of a command
abbrev pub finish_event : State → ℕ → SessionNo → Command → Option Reply × State
finish_event st line s command = finish_by st line s (asker_of command)

-- one step: the reply that it may give, and the next state
abbrev pub core_step : State → Event → Option Reply × State
core_step st (events.Edit l) = edit_event st l l.request
core_step st (events.Look l) = look_event st l l.request
core_step st (events.Piece s) = (None, st)
core_step st (events.Finish line s command) = finish_event st line s command

-- Where memory runs out at an event its line is answered so, and nothing changes, but that a query
-- under way is closed.

-- a query under way at whose answer memory runs out is closed
abbrev pub query_fails : State → ℕ → SessionNo → Option Opened → Option Reply × State
query_fails st line s None = (None, st)
query_fails st line s (Some held) = (Some (reply_of line s None memory), with_query st s.0 None)

-- a Finish at which memory runs out, by what it answers
abbrev pub finish_fails_by : State → ℕ → SessionNo → Asker → Option Reply × State
finish_fails_by st line s by_look = (Some (reply_of line s None memory), st)
finish_fails_by st line s by_query = query_fails st line s (slot st.queries s.0)
finish_fails_by st line s by_none = (None, st)

-- a Finish of a command at which memory runs out
abbrev pub finish_fails : State → ℕ → SessionNo → Command → Option Reply × State
finish_fails st line s command = finish_fails_by st line s (asker_of command)

-- an event at which memory runs out
abbrev pub core_fails : State → Event → Option Reply × State
core_fails st (events.Edit l) = (Some (reply_to l None memory), st)
core_fails st (events.Look l) = (Some (reply_to l None memory), st)
core_fails st (events.Piece s) = (None, st)
core_fails st (events.Finish line s command) = finish_fails st line s command

-- Runs.

-- a reply, if there is one, as a list
abbrev pub option_list : Option Reply → List Reply
option_list None = []
option_list (Some reply) = reply ∷ []

-- the replies to a list of events, and the state that it leaves
abbrev pub steps : State → List Event → List Reply × State
steps st [] = ([], st)
steps st (e ∷ es) = (option_list (core_step st e).0 ++ (steps (core_step st e).1 es).0, (steps (core_step st e).1 es).1)
