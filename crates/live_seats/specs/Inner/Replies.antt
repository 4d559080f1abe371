-- What the code of a lane does at one line, beside the list that its pass then has. These are no definitions of the
-- product: they say how the steps of the code lead to those.
use Rattle.std.specs.Prelude.{◌≡◌, ◌⊎◌, ℕ, ◌≤◌, List, [], ◌∷◌, ◌++◌, false, Option, Some, None, Result, Ok, Err, length}
use mathlib.Core.List.{IsPrefix}
use Rattle.edit_undo.specs.edit_rules.declared.acts.Act.{Act}
use Rattle.edit_undo.specs.edit_rules.declared.acts.Entry.{Entry}
use Rattle.textgrid.specs.declared.fault.GridFault.{GridFault}
use Rattle.version_gate.specs.declared.entry.Entry.{Entry as Numbered}
use Rattle.version_gate.specs.Lists.{EndsIn, Numbered as IsNumbered, entry}
use Rattle.version_tree.specs.Version.{state_of}
use Rattle.query_workers.specs.session_core.declared.kept_acts.KeptAct.{KeptAct}
use Rattle.query_workers.specs.session_core.declared.line.Answer.TheVariants.{Done, Refused}
use Rattle.query_workers.specs.session_core.declared.line.Ask.{Ask}
use Rattle.query_workers.specs.session_core.declared.line.Line.{Line}
use Rattle.query_workers.specs.session_core.declared.line.Refusal.TheVariants as refusals
use Rattle.query_workers.specs.session_core.declared.line.Reply.{Reply}
use Rattle.query_workers.specs.session_core.declared.line.Request.TheVariants as requests
use Rattle.query_workers.specs.session_core.declared.slots.Held.{Held}
use Rattle.query_workers.specs.session_core.Answers.{answer_over, reply_to}
use Rattle.query_workers.specs.session_core.Inner.Kept.{AreHeld, grid_told, look_closed, opened_in}
use Rattle.query_workers.specs.session_core.Legal.{Mark}
use Rattle.query_workers.specs.session_core.Queries.{lacks_memory}
use Rattle.query_workers.specs.session_core.Steps.{put_slot, slot}
use Rattle.query_workers.specs.session_core.Undos.{kept_act, latest_of}
use Rattle.edit_undo.specs.edit_rules.declared.commit_fault.EditFault.{EditFault}
use Rattle.live_book.specs.declared.kept.Kept.{Kept}
use Rattle.live_book.specs.declared.published.Published.{Published}
use Rattle.live_book.specs.Commits.{entry_of}
use Rattle.live_book.specs.Inner.Inverses.{numbered as number_in}
use Rattle.live_book.specs.Live.{Opened}
use Rattle.live_book.specs.Inner.Live.{Count, EditsKept, count_behind}
use Rattle.query_workers.specs.session_core.Inner.Told.{head_of}
use Rattle.live_laws.specs.Lanes.{IsStep}
use Rattle.live_seats.specs.Inner.Seats.{KeepsMore, SeesMore, answered_step, counted_by}

-- the query of a line was answered over the last version of a list
pub record IsQueried (list : List (Numbered Published)) (l : Line) (ask : Ask) (reply : Reply) : Type 0 where
  pub n : ℕ
  pub shown : Published
  pub last : EndsIn list (entry n shown)
  pub is_told : lacks_memory ask ≡ false
  pub made : reply ≡ reply_to l (Some n) (answer_over (state_of shown.version) ask)

-- a query of a line, over a version of this number
abbrev pub look_over : ℕ → ℕ → Ask → Published → Held
look_over line n ask shown = record { line = line; n = n; ask = ask; database = state_of shown.version }

-- the query of a line, over a version of this number
abbrev pub look_held : Line → Ask → ℕ → Published → Held
look_held l ask n shown = look_over l.line n ask shown

-- a look opened over the last version of a list
pub record Opens (list : List (Numbered Published)) (l : Line) (ask : Ask) (old new : List (Option Held))
    (reply : Reply) : Type 0 where
  pub n : ℕ
  pub shown : Published
  pub last : EndsIn list (entry n shown)
  pub looks : new ≡ put_slot old l.session.0 (Some (look_held l ask n shown))
  pub made : reply ≡ reply_to l (Some n) (Done l.command)

-- a look was refused, since one is open
pub record IsOpenAlready (l : Line) (old new : List (Option Held)) (reply : Reply) : Type 0 where
  pub looks : new ≡ old
  pub made : reply ≡ reply_to l None (Refused refusals.LookOpen)

-- a `look` was answered, where this look was open
abbrev pub LooksAt : List (Numbered Published) → Line → Ask → List (Option Held) → Option Held → List (Option Held)
    → Reply → Type 0
LooksAt list l ask old (Some held) new reply = IsOpenAlready l old new reply
LooksAt list l ask old None new reply = Opens list l ask old new reply

-- a `finish` was answered
abbrev pub Finishes : Line → List (Option Held) → List (Option Held) → Reply → Type 0
Finishes l old new reply = (reply, new) ≡ look_closed l.line l.session old (slot old l.session.0)

-- an `after` was answered, where this number was heard of the line that it names
pub record GoesOn (list : List (Numbered Published)) (l : Line) (heard : ℕ) (reply : Reply) : Type 0 where
  pub n : ℕ
  pub shown : Published
  pub last : EndsIn list (entry n shown)
  pub enough : heard ≤ n
  pub made : reply ≡ reply_to l (Some n) (Done l.command)

-- a TextGrid with a fault was refused
pub record IsGridRefused (list : List (Numbered Published)) (l : Line) (fault : GridFault) (reply : Reply)
    : Type 0 where
  pub n : ℕ
  pub shown : Published
  pub last : EndsIn list (entry n shown)
  pub made : reply ≡ grid_told (head_of l) n fault

-- an act was tried for a line
pub record IsTried (o : Opened) (old new : List (Numbered Published)) (count count_now : Count) (l : Line)
    (act : Act) (made : Result Kept EditFault) : Type 0 where
  pub seen : ℕ
  pub numbered : IsNumbered seen old
  pub edits : EditsKept o (entry_of l.session l.line act) old new made
  pub counted : count_now ≡ count_behind count (number_in made)

-- what is kept behind an answer: what takes an accepted act back stands last
abbrev pub kept_with : List KeptAct → Line → Result Kept EditFault → List KeptAct
kept_with acts l (Ok kept) = acts ++ kept_act l.session l.line kept.inverse ∷ []
kept_with acts l (Err fault) = acts

-- a line asks to take back an earlier one of its session, and this act does so
pub record AsksBack (acts : List KeptAct) (l : Line) (act : Act) : Type 0 where
  pub earlier : ℕ
  pub asks : l.request ≡ requests.Undo earlier
  pub back : latest_of l.session.0 earlier acts ≡ Some (Ok act)

-- a line wants an act: its own, or the one that takes back the line that it names
abbrev pub WantsAct : List KeptAct → Line → Act → Type 0
WantsAct acts l act = (l.request ≡ requests.Edit (Ok act)) ⊎ AsksBack acts l act

-- What the reply to a line does to the parts of a seat, before its number is noted: the pass's list goes on, the share
-- counts the answer, and beside whatever histories the lists show, it is a step of a lane
pub record RepliesTo (o : Opened) (old new : List (Numbered Published)) (count count_now : Count)
    (looks looks_now : List (Option Held)) (acts acts_now : List KeptAct) (l : Line) (reply : Reply)
    (heard : Option ℕ) : Type 0 where
  pub learnt : IsPrefix old new
  pub counted : count_now ≡ counted_by count (record { line = l; reply = reply })
  pub places : length looks_now ≡ length looks
  pub step : (marks : List Mark) (before history : List Entry) → SeesMore o old new looks marks acts before history
      → IsStep o.config (length o.entries) o.stored before history (opened_in looks) (opened_in looks_now) marks l
      (answered_step l reply (length history) heard)
      × KeepsMore o history looks_now marks acts_now l reply
