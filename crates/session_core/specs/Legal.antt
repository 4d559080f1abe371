-- Legal runs: which replies to the lines of a script may stand beside a history, whatever ran at once.
use Rattle.std.specs.Prelude.{◌≡◌, ◌⊎◌, ℕ, ◌+◌, ◌<◌, ◌≤◌, max, Bool, true, false, ◌&&◌, List, [], ◌∷◌, ◌++◌, length, map, filter, count_by, take, Option, Some, None, Ok, Err, nat_eq, nat_le, Result, if◌then◌else◌, slice_get}
use Rattle.db_config.specs.declared.parts.ConfigParts.{ConfigParts}
use Rattle.textgrid.specs.declared.fault.GridFault.{GridFault}
use Rattle.emu_names.specs.declared.kinds.SessionNo.{SessionNo}
use Rattle.emu_names.specs.declared.rules.Broken.{Broken}
use Rattle.edit_undo.specs.edit_rules.declared.acts.Act.{Act}
use Rattle.edit_undo.specs.edit_rules.declared.acts.Entry.{Entry}
use Rattle.edit_undo.specs.edit_rules.Database.{DatabaseParts}
use Rattle.session_core.specs.declared.line.Command.{Command}
use Rattle.session_core.specs.declared.line.Ask.{Ask}
use Rattle.session_core.specs.declared.line.Answer.{Answer}
use Rattle.session_core.specs.declared.line.Answer.TheVariants.{Done, Segments, Refused}
use Rattle.session_core.specs.declared.line.Refusal.{Refusal}
use Rattle.session_core.specs.declared.line.Refusal.TheVariants as refusals
use Rattle.session_core.specs.declared.line.Request.{Request}
use Rattle.session_core.specs.declared.line.Request.TheVariants as requests
use Rattle.session_core.specs.declared.line.Line.{Line}
use Rattle.session_core.specs.declared.line.Reply.{Reply}
use Rattle.edit_undo.specs.edit_rules.Effects.{IsLegal, edited, database_after}
use Rattle.edit_undo.specs.declared.faults.NoUndo.{NoUndo}
use Rattle.edit_undo.specs.Inverse.{inverse_at}
use Rattle.session_core.specs.Queries.{lacks_memory}
use Rattle.session_core.specs.Answers.{answer_at, memory, is_want_of_memory, entry_of, place_shown}
use Rattle.session_core.specs.Undos.{found_later, undo_refusal}
use Rattle.session_core.specs.Worlds.{Turn, Each, passes_store}
use Rattle.emu_names.specs.Count.{RoseBy}
use Rattle.emu_names.specs.declared.limits.TheConstants.{HISTORY_EDITS}

-- 1. Lines and replies. Each line has one reply, and the replies of each session stand in the order
-- of its lines.

-- a reply names its line and its session
pub record IsNamed (t : Turn) : Type 0 where
  pub line : t.reply.line ≡ t.line.line
  pub session : t.reply.session ≡ t.line.session

-- a turn is of this session
abbrev pub is_of : ℕ → Turn → Bool
is_of s t = nat_eq t.line.session.0 s

-- the turns of a session
abbrev pub of_session : ℕ → List Turn → List Turn
of_session s turns = filter (is_of s) turns

-- a line is of this session
abbrev pub is_line_of : ℕ → Line → Bool
is_line_of s l = nat_eq l.session.0 s

-- the lines of a session
abbrev pub lines_of_session : ℕ → List Line → List Line
lines_of_session s lines = filter (is_line_of s) lines

-- the lines of turns
abbrev pub lines_in : List Turn → List Line
lines_in turns = map (λ t. t.line) turns

-- the replies of turns
abbrev pub replies_in : List Turn → List Reply
replies_in turns = map (λ t. t.reply) turns

-- 2. One history. Each new entry has exactly one accepting reply, with its number, session and
-- line; each accepting reply has such an entry. That the entry holds what the line asks for is said
-- of each acceptance, under 3.

-- an entry's number in the history, counted from 1, and the line and session that it came from
pub record Mark : Type 0 where
  pub n : ℕ
  pub line : ℕ
  pub session : SessionNo

-- whether a request may bring an entry
abbrev pub makes_entry : Request → Bool
makes_entry (requests.Edit (Ok act)) = true
makes_entry (requests.Edit (Err fault)) = false
makes_entry (requests.Undo earlier) = true
makes_entry (requests.Query ask) = false
makes_entry (requests.Look ask) = false
makes_entry requests.Finish = false
makes_entry (requests.After earlier) = false

-- the mark of a line that was accepted with this number
abbrev pub mark_of : Line → ℕ → Mark
mark_of l n = record { n = n; line = l.line; session = l.session }

-- the mark that a reply tells, if its line may bring an entry
abbrev pub told_mark : Line → Bool → Option ℕ → Answer → List Mark
told_mark l true (Some n) (Done command) = mark_of l n ∷ []
told_mark l true (Some n) (Segments rows) = []
told_mark l true (Some n) (Refused refusal) = []
told_mark l true None answer = []
told_mark l false n answer = []

-- the mark of the entry that an accepting reply tells
abbrev pub accepting : Line → Request → Option ℕ → Answer → List Mark
accepting l request n answer = told_mark l (makes_entry request) n answer

-- the marks of the entries that all replies tell
abbrev pub accepted : List Turn → List Mark
accepted [] = []
accepted (t ∷ ts) = accepting t.line t.line.request t.reply.n t.reply.answer ++ accepted ts

-- the mark of an entry that has this number
abbrev pub mark_at : ℕ → Entry → Mark
mark_at n e = record { n = n; line = e.line; session = e.session }

-- the marks of entries, from this number on
abbrev pub numbered : ℕ → List Entry → List Mark
numbered n [] = []
numbered n (e ∷ es) = mark_at n e ∷ numbered (n + 1) es

-- a mark has this number
abbrev pub has_number : ℕ → Mark → Bool
has_number n m = nat_eq m.n n

-- the marks of a number
abbrev pub with_number : ℕ → List Mark → List Mark
with_number n marks = filter (has_number n) marks

-- 3. Each answer is right for the state that its number names.

-- an acceptance at n is right for the state after n - 1, and its act is that of the n-th entry
pub record IsAcceptance (c : ConfigParts) (H : List Entry) (l : Line) (act : Act) (n : ℕ)
    (command : Command) : Type 0 where
  pub own : command ≡ l.command
  pub before : ℕ
  pub number : n ≡ before + 1
  pub room : before < HISTORY_EDITS
  pub database : DatabaseParts
  pub right : edited c (take before H) act ≡ Ok database
  pub entry : slice_get H before ≡ Some (entry_of l act)

-- the store has no room for the entry, whose act breaks no rule after n
pub record IsStoreFull (c : ConfigParts) (H : List Entry) (store : Bool) (l : Line) (act : Act) (n : ℕ) : Type 0 where
  pub room : n < HISTORY_EDITS
  pub stored : store ≡ true
  pub database : DatabaseParts
  pub right : edited c (take n H) act ≡ Ok database
  pub passes : passes_store c (take n H) (entry_of l act) ≡ true

-- a rule that is told at n, with its place where the line is a list of edits: the act breaks it first after n
pub record IsRightRule (c : ConfigParts) (H : List Entry) (l : Line) (act : Act) (n : ℕ)
    (rule : Broken) (place : Option ℕ) : Type 0 where
  pub room : n < HISTORY_EDITS
  pub at : ℕ
  pub broken : edited c (take n H) act ≡ Err (record { place = at; rule = rule })
  pub shown : place ≡ place_shown l.command at

-- a refusal of an act at n is right
abbrev pub IsRightRefusal : ConfigParts → List Entry → Bool → Line → Act → ℕ → Refusal → Type 0
IsRightRefusal c H store l act n (refusals.Rule rule place) = IsRightRule c H l act n rule place
IsRightRefusal c H store l act n refusals.HistoryFull = n ≡ HISTORY_EDITS
IsRightRefusal c H store l act n refusals.StoreFull = IsStoreFull c H store l act n
IsRightRefusal c H store l act n (refusals.Grid fault) = ⊥
IsRightRefusal c H store l act n (refusals.Prepare fault) = ⊥
IsRightRefusal c H store l act n (refusals.Resolve fault) = ⊥
IsRightRefusal c H store l act n refusals.TooManyTuples = ⊥
IsRightRefusal c H store l act n refusals.NotAccepted = ⊥
IsRightRefusal c H store l act n refusals.TooManyEdits = ⊥
IsRightRefusal c H store l act n refusals.NoInverse = ⊥
IsRightRefusal c H store l act n refusals.NoLook = ⊥
IsRightRefusal c H store l act n refusals.LookOpen = ⊥
IsRightRefusal c H store l act n refusals.Disk = ⊥
IsRightRefusal c H store l act n refusals.Memory = ⊥

-- an answer to an edit at n is right
abbrev pub IsRightEdit : ConfigParts → List Entry → Bool → Line → Act → ℕ → Answer → Type 0
IsRightEdit c H store l act n (Done command) = IsAcceptance c H l act n command
IsRightEdit c H store l act n (Refused refusal) = IsRightRefusal c H store l act n refusal
IsRightEdit c H store l act n (Segments rows) = ⊥

-- an answer to an `undo` at n is right as that to an edit by some act; 5 says by which
pub record IsRightUndo (c : ConfigParts) (H : List Entry) (store : Bool) (l : Line) (n : ℕ) (answer : Answer) : Type 0 where
  pub act : Act
  pub right : IsRightEdit c H store l act n answer

-- a line whose TextGrid has a fault is refused for it, whatever state its number names; want of memory is no
-- fault that is told
pub record IsRightGrid (fault : GridFault) (answer : Answer) : Type 0 where
  pub told : answer ≡ Refused (refusals.Grid fault)
  pub is_fault : is_want_of_memory fault ≡ false

-- an answer to a query is the one over the state after n; want of memory names no state
pub record IsRightQuery (c : ConfigParts) (H : List Entry) (ask : Ask) (n : ℕ) (answer : Answer) : Type 0 where
  pub given : answer ≡ answer_at c H n ask
  pub is_told : lacks_memory ask ≡ false

-- an answer with a number, which names a state from the opening's to the last one
abbrev pub IsRightAt : ConfigParts → List Entry → Bool → Line → Request → ℕ → Answer → Type 0
IsRightAt c H store l (requests.Edit (Ok act)) n answer = IsRightEdit c H store l act n answer
IsRightAt c H store l (requests.Edit (Err fault)) n answer = IsRightGrid fault answer
IsRightAt c H store l (requests.Undo earlier) n answer = IsRightUndo c H store l n answer
IsRightAt c H store l (requests.Query ask) n answer = IsRightQuery c H ask n answer
IsRightAt c H store l (requests.Look ask) n answer = answer ≡ Done l.command
IsRightAt c H store l (requests.After earlier) n answer = answer ≡ Done l.command
-- 4 says which look a `finish` answers
IsRightAt c H store l requests.Finish n answer = Unit {0}

-- An answer without a number is one of these: want of memory; a failed disk, for an edit or an `undo` where there is
-- a store; the two refusals of looks, of which 4 says when they come; the three of an `undo` alone, of which 5 says
-- when they come.

-- a failed disk may answer the request: an edit or an `undo`, where there is a store; a line whose TextGrid has a
-- fault never reaches the disk
abbrev pub IsDiskFor : Bool → Request → Type 0
IsDiskFor store (requests.Edit (Ok act)) = store ≡ true
IsDiskFor store (requests.Edit (Err fault)) = ⊥
IsDiskFor store (requests.Undo earlier) = store ≡ true
IsDiskFor store (requests.Query ask) = ⊥
IsDiskFor store (requests.Look ask) = ⊥
IsDiskFor store requests.Finish = ⊥
IsDiskFor store (requests.After earlier) = ⊥

-- a request is a `look`
abbrev pub IsLook : Request → Type 0
IsLook (requests.Edit given) = ⊥
IsLook (requests.Undo earlier) = ⊥
IsLook (requests.Query ask) = ⊥
IsLook (requests.Look ask) = Unit {0}
IsLook requests.Finish = ⊥
IsLook (requests.After earlier) = ⊥

-- a request is a `finish`
abbrev pub IsFinish : Request → Type 0
IsFinish (requests.Edit given) = ⊥
IsFinish (requests.Undo earlier) = ⊥
IsFinish (requests.Query ask) = ⊥
IsFinish (requests.Look ask) = ⊥
IsFinish requests.Finish = Unit {0}
IsFinish (requests.After earlier) = ⊥

-- a request is an `undo`
abbrev pub IsUndo : Request → Type 0
IsUndo (requests.Edit given) = ⊥
IsUndo (requests.Undo earlier) = Unit {0}
IsUndo (requests.Query ask) = ⊥
IsUndo (requests.Look ask) = ⊥
IsUndo requests.Finish = ⊥
IsUndo (requests.After earlier) = ⊥

-- a refusal without a number may answer the request
abbrev pub IsRefusedUnnumbered : Bool → Request → Refusal → Type 0
IsRefusedUnnumbered store request refusals.Memory = Unit {0}
IsRefusedUnnumbered store request refusals.Disk = IsDiskFor store request
IsRefusedUnnumbered store request refusals.LookOpen = IsLook request
IsRefusedUnnumbered store request refusals.NoLook = IsFinish request
IsRefusedUnnumbered store request refusals.NotAccepted = IsUndo request
IsRefusedUnnumbered store request refusals.TooManyEdits = IsUndo request
IsRefusedUnnumbered store request refusals.NoInverse = IsUndo request
IsRefusedUnnumbered store request (refusals.Rule rule place) = ⊥
IsRefusedUnnumbered store request (refusals.Grid fault) = ⊥
IsRefusedUnnumbered store request (refusals.Prepare fault) = ⊥
IsRefusedUnnumbered store request (refusals.Resolve fault) = ⊥
IsRefusedUnnumbered store request refusals.TooManyTuples = ⊥
IsRefusedUnnumbered store request refusals.HistoryFull = ⊥
IsRefusedUnnumbered store request refusals.StoreFull = ⊥

-- an answer without a number is one of these refusals
abbrev pub IsRightUnnumbered : Bool → Request → Answer → Type 0
IsRightUnnumbered store request (Refused refusal) = IsRefusedUnnumbered store request refusal
IsRightUnnumbered store request (Done command) = ⊥
IsRightUnnumbered store request (Segments rows) = ⊥

-- an answer is right, with a number and without
abbrev pub IsRight : ConfigParts → ℕ → List Entry → Bool → Line → Option ℕ → Answer → Type 0
IsRight c m H store l None answer = IsRightUnnumbered store l.request answer
IsRight c m H store l (Some n) answer = (m ≤ n) × (n ≤ length H) × IsRightAt c H store l l.request n answer

-- the reply of a turn is right
abbrev pub IsRightTurn : ConfigParts → ℕ → List Entry → Bool → Turn → Type 0
IsRightTurn c m H store t = IsRight c m H store t.line t.reply.n t.reply.answer

-- 4. What a session sees. Its numbers never fall, a `finish` apart, which has the number and the
-- query of its look. A `look` is answered `LookOpen` exactly where a look is open, a `finish`
-- `NoLook` exactly where none is, and either may be answered want of memory, which leaves the
-- look as it was.

-- the least number that the session's next reply may have
abbrev pub low_behind : ℕ → Request → Option ℕ → ℕ
low_behind low request None = low
low_behind low requests.Finish (Some n) = low
low_behind low (requests.Edit given) (Some n) = n
low_behind low (requests.Undo earlier) (Some n) = n
low_behind low (requests.Query ask) (Some n) = n
low_behind low (requests.Look ask) (Some n) = n
low_behind low (requests.After earlier) (Some n) = n

-- a reply's number is at least this one, that of a `finish` apart
abbrev pub KeepsUp : ℕ → Request → Option ℕ → Type 0
KeepsUp low request None = Unit {0}
KeepsUp low requests.Finish (Some n) = Unit {0}
KeepsUp low (requests.Edit given) (Some n) = low ≤ n
KeepsUp low (requests.Undo earlier) (Some n) = low ≤ n
KeepsUp low (requests.Query ask) (Some n) = low ≤ n
KeepsUp low (requests.Look ask) (Some n) = low ≤ n
KeepsUp low (requests.After earlier) (Some n) = low ≤ n

-- the numbers of a session's replies never fall
abbrev pub NeverFalls : ℕ → List Turn → Type 0
NeverFalls low [] = Unit {0}
NeverFalls low (t ∷ ts) = KeepsUp low t.line.request t.reply.n × NeverFalls (low_behind low t.line.request t.reply.n) ts

-- an open look: its number and its query
pub record Look : Type 0 where
  pub n : ℕ
  pub ask : Ask

-- the look that is open behind the reply to a `look`
abbrev pub look_behind : Option Look → Ask → Option ℕ → Option Look
look_behind held ask None = held
look_behind None ask (Some n) = Some (record { n = n; ask = ask })
look_behind (Some held) ask (Some n) = Some held

-- the look that is open behind the reply to a `finish`
abbrev pub finish_behind : Option Look → Option ℕ → Option Look
finish_behind held None = held
finish_behind held (Some n) = None

-- the look that is open behind a reply
abbrev pub open_behind : Option Look → Request → Option ℕ → Option Look
open_behind held (requests.Look ask) n = look_behind held ask n
open_behind held requests.Finish n = finish_behind held n
open_behind held (requests.Edit given) n = held
open_behind held (requests.Undo earlier) n = held
open_behind held (requests.Query ask) n = held
open_behind held (requests.After earlier) n = held

-- the reply to a `look` fits the look that is open before it
abbrev pub LookReplyFits : Option Look → Option ℕ → Answer → Type 0
LookReplyFits None (Some n) answer = Unit {0}
LookReplyFits None None answer = answer ≡ memory
LookReplyFits (Some held) (Some n) answer = ⊥
LookReplyFits (Some held) None answer = (answer ≡ Refused refusals.LookOpen) ⊎ (answer ≡ memory)

-- the reply to a `finish` fits the look that is open before it
abbrev pub FinishReplyFits : ConfigParts → List Entry → Option Look → Option ℕ → Answer → Type 0
FinishReplyFits c H None (Some n) answer = ⊥
FinishReplyFits c H None None answer = (answer ≡ Refused refusals.NoLook) ⊎ (answer ≡ memory)
FinishReplyFits c H (Some held) (Some n) answer = (n ≡ held.n) × IsRightQuery c H held.ask held.n answer
FinishReplyFits c H (Some held) None answer = answer ≡ memory

-- a reply fits the look that is open before it
abbrev pub ReplyFits : ConfigParts → List Entry → Option Look → Request → Option ℕ → Answer → Type 0
ReplyFits c H held (requests.Look ask) n answer = LookReplyFits held n answer
ReplyFits c H held requests.Finish n answer = FinishReplyFits c H held n answer
ReplyFits c H held (requests.Edit given) n answer = Unit {0}
ReplyFits c H held (requests.Undo earlier) n answer = Unit {0}
ReplyFits c H held (requests.Query ask) n answer = Unit {0}
ReplyFits c H held (requests.After earlier) n answer = Unit {0}

-- the replies of a session fit its looks, one after another
abbrev pub LooksFit : ConfigParts → List Entry → Option Look → List Turn → Type 0
LooksFit c H held [] = Unit {0}
LooksFit c H held (t ∷ ts) =
    ReplyFits c H held t.line.request t.reply.n t.reply.answer
    × LooksFit c H (open_behind held t.line.request t.reply.n) ts

-- 5. What a session takes back. An `undo` of a line that was not accepted is answered `NotAccepted`. For any other
-- the act is wanted that takes back the line's entry: the inverse of its act over the state before it. Where there
-- is none that is answered, and the act is else answered as an edit. Want of memory may come at each.

-- whether a mark is of this line of this session
abbrev pub is_mark_of : ℕ → ℕ → Mark → Bool
is_mark_of session line mark = nat_eq mark.session.0 session && nat_eq mark.line line

-- the number with which a line of a session was accepted, as these marks tell it
abbrev pub accepted_as : ℕ → ℕ → List Mark → Option ℕ
accepted_as session line [] = None
accepted_as session line (mark ∷ rest) =
    found_later (accepted_as session line rest) (if is_mark_of session line mark then Some mark.n else None)

-- the act that takes back the entry of this number, or why there is none: its act's inverse over the state before it
pub record IsInverseOf (c : ConfigParts) (H : List Entry) (n : ℕ) (inverse : Result Act NoUndo) : Type 0 where
  pub before : ℕ
  pub number : n ≡ before + 1
  pub entry : Entry
  pub there : slice_get H before ≡ Some entry
  pub is : inverse ≡ inverse_at (database_after c (take before H)) entry.act

-- what takes a line back, by the number with which it was accepted, where it was
abbrev pub TakesBack : ConfigParts → List Entry → Option ℕ → Option (Result Act NoUndo) → Type 0
TakesBack c H None None = Unit {0}
TakesBack c H None (Some inverse) = ⊥
TakesBack c H (Some n) None = ⊥
TakesBack c H (Some n) (Some inverse) = IsInverseOf c H n inverse

-- the answer without a number to an act that is wanted
abbrev pub IsActUnnumbered : Bool → Answer → Type 0
IsActUnnumbered store answer = (answer ≡ memory) ⊎ ((store ≡ true) × (answer ≡ Refused refusals.Disk))

-- the reply to an `undo`, by what takes its line back
abbrev pub UndoAnswers : ConfigParts → List Entry → Bool → Line → Option (Result Act NoUndo) → Option ℕ → Answer → Type 0
UndoAnswers c H store l None None answer = (answer ≡ Refused refusals.NotAccepted) ⊎ (answer ≡ memory)
UndoAnswers c H store l (Some (Err fault)) None answer = (answer ≡ Refused (undo_refusal fault)) ⊎ (answer ≡ memory)
UndoAnswers c H store l (Some (Ok act)) None answer = IsActUnnumbered store answer
UndoAnswers c H store l None (Some n) answer = ⊥
UndoAnswers c H store l (Some (Err fault)) (Some n) answer = ⊥
UndoAnswers c H store l (Some (Ok act)) (Some n) answer = IsRightEdit c H store l act n answer

-- the reply to an `undo` of a line that was accepted with this number, or that was not
pub record UndoFits (c : ConfigParts) (H : List Entry) (store : Bool) (l : Line) (number n : Option ℕ)
    (answer : Answer) : Type 0 where
  pub inverse : Option (Result Act NoUndo)
  pub takes : TakesBack c H number inverse
  pub answers : UndoAnswers c H store l inverse n answer

-- a reply fits the marks that the session's replies before it told
abbrev pub ReplyUndoes : ConfigParts → List Entry → Bool → List Mark → Line → Request → Option ℕ → Answer → Type 0
ReplyUndoes c H store marks l (requests.Undo earlier) n answer =
    UndoFits c H store l (accepted_as l.session.0 earlier marks) n answer
ReplyUndoes c H store marks l (requests.Edit given) n answer = Unit {0}
ReplyUndoes c H store marks l (requests.Query ask) n answer = Unit {0}
ReplyUndoes c H store marks l (requests.Look ask) n answer = Unit {0}
ReplyUndoes c H store marks l requests.Finish n answer = Unit {0}
ReplyUndoes c H store marks l (requests.After earlier) n answer = Unit {0}

-- the replies of a session fit what it did, one after another
abbrev pub UndosFit : ConfigParts → List Entry → Bool → List Mark → List Turn → Type 0
UndosFit c H store marks [] = Unit {0}
UndosFit c H store marks (t ∷ ts) =
    ReplyUndoes c H store marks t.line t.line.request t.reply.n t.reply.answer
    × UndosFit c H store (marks ++ accepting t.line t.line.request t.reply.n t.reply.answer) ts

-- 6. What an `after` has seen: at least the greatest number among the replies of the named line's
-- session up to that line, or the opening's where there is none.

-- the session of the line of a number
abbrev pub session_of : ℕ → List Turn → Option ℕ
session_of line [] = None
session_of line (t ∷ ts) = if nat_eq t.line.line line then Some t.line.session.0 else session_of line ts

-- the greater of a number and that of a reply, where it has one
abbrev pub number_or : ℕ → Option ℕ → ℕ
number_or low None = low
number_or low (Some n) = max low n

-- the greatest of m and the numbers of a session's replies up to a line
abbrev pub seen_by : ℕ → ℕ → ℕ → List Turn → ℕ
seen_by m session line [] = m
seen_by m session line (t ∷ ts) =
    if nat_eq t.line.session.0 session && nat_le t.line.line line
    then number_or (seen_by m session line ts) t.reply.n
    else seen_by m session line ts

-- the same of the session that was found for the line, or m where none was
abbrev pub seen_in : ℕ → ℕ → Option ℕ → List Turn → ℕ
seen_in m line None turns = m
seen_in m line (Some session) turns = seen_by m session line turns

-- what the session of a line had seen up to it
abbrev pub seen : ℕ → List Turn → ℕ → ℕ
seen m turns line = seen_in m line (session_of line turns) turns

-- the number of an `after` is at least what its line had seen
abbrev pub HasSeen : ℕ → List Turn → Request → Option ℕ → Type 0
HasSeen m turns (requests.After earlier) (Some n) = seen m turns earlier ≤ n
HasSeen m turns (requests.After earlier) None = Unit {0}
HasSeen m turns (requests.Edit given) n = Unit {0}
HasSeen m turns (requests.Undo earlier) n = Unit {0}
HasSeen m turns (requests.Query ask) n = Unit {0}
HasSeen m turns (requests.Look ask) n = Unit {0}
HasSeen m turns requests.Finish n = Unit {0}

-- the same of a turn
abbrev pub HasSeenTurn : ℕ → List Turn → Turn → Type 0
HasSeenTurn m turns t = HasSeen m turns t.line.request t.reply.n

-- 7. Failed disks: no more of them than the disk's count of faults rose by.

-- the disk refused a request
abbrev pub is_disk_refusal : Refusal → Bool
is_disk_refusal refusals.Disk = true
is_disk_refusal refusal = false

-- an answer is a refusal of the disk
abbrev pub is_disk : Answer → Bool
is_disk (Refused refusal) = is_disk_refusal refusal
is_disk answer = false

-- how many requests the disk refused
abbrev pub disk_replies : List Reply → ℕ
disk_replies replies = count_by (λ r. is_disk r.answer) replies

-- What holds of the lines and replies of one session alone: m is the number of entries before the run,
-- H the history, and `store` says whether there is a store.
pub record KeepsSession (c : ConfigParts) (m : ℕ) (H : List Entry) (store : Bool) (script : List Line)
    (turns : List Turn) (s : ℕ) : Type 0 where
  -- each line of the session has one reply, and the replies stand in the order of the lines
  pub in_order : lines_in (of_session s turns) ≡ lines_of_session s script
  -- its numbers never fall, those of a `finish` apart
  pub never_falls : NeverFalls m (of_session s turns)
  -- its looks open and close as their replies say, and a `finish` has its look's number and answer
  pub looks : LooksFit c H None (of_session s turns)
  -- each `undo` takes back what its session's replies before it say that its line did
  pub undos : UndosFit c H store [] (of_session s turns)

-- What holds of all lines and replies together: m entries stood before the run, and these came in it. `store`
-- says whether there is a store; the disk's count of faults went from one number to another.
pub record KeepsRun (c : ConfigParts) (m : ℕ) (H more : List Entry) (turns : List Turn)
    (store : Bool) (before now : ℕ) : Type 0 where
  -- each reply names its line and its session
  pub named : Each IsNamed turns
  -- each new entry has exactly one accepting reply, and each accepting reply has its entry
  pub one_entry : (n : ℕ) → with_number n (accepted turns) ≡ with_number n (numbered (m + 1) more)
  -- each answer with a number is right for the state of that number
  pub right : Each (IsRightTurn c m H store) turns
  -- an `after` has seen what its line's session had seen
  pub seen_there : Each (HasSeenTurn m turns) turns
  -- the disk's count rose once or more for each of its refusals
  pub disk : RoseBy (disk_replies (replies_in turns)) before now

-- The replies to the lines of a script are legal beside a history that begins with the opening's entries;
-- `store` says whether there is a store, and the disk's count of faults went from one number to another.
pub record Legal (c : ConfigParts) (opening : List Entry) (script : List Line) (replies : List Reply)
    (H : List Entry) (store : Bool) (before now : ℕ) : Type 0 where
  -- the entries that came in the run
  pub more : List Entry
  -- the history goes on from the opening's
  pub prefix : H ≡ opening ++ more
  -- no entry breaks a rule
  pub legal : IsLegal c H
  -- the lines with their replies
  pub turns : List Turn
  pub replied : replies_in turns ≡ replies
  pub sessions : (s : ℕ) → KeepsSession c (length opening) H store script turns s
  pub whole : KeepsRun c (length opening) H more turns store before now
