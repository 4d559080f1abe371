-- What the code keeps of a run in order, and what it does to the parts at a line. These are no definitions of
-- the product: they say how the steps of the code lead to those.
use Rattle.std.specs.Prelude.{◌≡◌, ℕ, ◌-◌, List, [], ◌∷◌, ◌++◌, Option, Some, None, Result, Ok, Err, length, take, drop}
use Rattle.db_config.specs.declared.parts.ConfigParts.{ConfigParts}
use Rattle.textgrid.specs.declared.fault.GridFault.{GridFault}
use Rattle.edit_rules.specs.declared.acts.Act.{Act}
use Rattle.edit_rules.specs.declared.acts.Entry.{Entry}
use Rattle.edit_rules.specs.Database.{DatabaseParts}
use Rattle.edit_rules.specs.Effects.{after}
use Rattle.live_book.specs.edit_undo.declared.faults.NoUndo.{NoUndo}
use Rattle.query_workers.specs.session_core.declared.kept_acts.KeptAct.{KeptAct}
use Rattle.query_workers.specs.session_core.declared.line.Answer.TheVariants.{Refused}
use Rattle.query_workers.specs.session_core.declared.line.Ask.{Ask}
use Rattle.query_workers.specs.session_core.declared.line.Line.{Line}
use Rattle.query_workers.specs.session_core.declared.line.Refusal.TheVariants as refusals
use Rattle.query_workers.specs.session_core.declared.line.Reply.{Reply}
use Rattle.query_workers.specs.session_core.declared.head.Head.{Head}
use Rattle.query_workers.specs.session_core.declared.slots.Held.{Held}
use Rattle.query_workers.specs.session_core.declared.line.Request.{Request}
use Rattle.query_workers.specs.session_core.Inner.Kept.{AreHeld, held_at, grid_told, head_entry, head_line, head_reply, looked, opened_in, query_reply}
use Rattle.query_workers.specs.session_core.Inner.Told.{commit_reply}
use Rattle.query_workers.specs.session_core.Queries.{lacks_memory}
use Rattle.query_workers.specs.session_core.Steps.{slot}
use Rattle.query_workers.specs.session_core.Undos.{kept_act, kept_behind, undo_refusal}
use Rattle.edit_rules.specs.declared.commit_fault.EditFault.{EditFault}
use Rattle.live_book.specs.declared.kept.Kept.{Kept}
use Rattle.live_book.specs.Commits.{Commits}
use Rattle.live_book.specs.Inner.Inverses.{KeepsInverse, numbered}
use Rattle.live_book.specs.Kept.{BookParts}
use Rattle.session_run.specs.Inner.Orders.{Answers, OrderParts}

-- how many entries a history began with, where this is kept of those that came
abbrev pub base_of : List Entry → List KeptAct → ℕ
base_of history acts = length history - length acts

-- what is kept takes back each entry that came
abbrev pub KeepsActs : ConfigParts → List Entry → List KeptAct → Type 0
KeepsActs config history acts =
    acts ≡ kept_behind config (take (base_of history acts) history) (drop (base_of history acts) history)

-- the run of a book, of the looks that are kept, each with the database of its moment, and of what is kept of its entries
abbrev pub run_of : {D : Type 0} → BookParts D → List (Option Held) → List KeptAct → OrderParts D
run_of book looks acts = record { book = book; base = base_of book.history acts; looks = opened_in looks }

-- a look over the state after this history, which is held
pub record IsLookedAt (config : ConfigParts) (history : List Entry) (head : Head) (ask : Ask)
    (old : List (Option Held)) (reply : Reply) (new : List (Option Held)) : Type 0 where
  pub database : DatabaseParts
  pub state : after config history ≡ Ok database
  pub made : (reply, new) ≡ looked head ask (length history) database old (slot old head.session.0)

-- a query is answered over the state after this history
pub record IsAnsweredAt (config : ConfigParts) (history : List Entry) (head : Head) (ask : Ask)
    (reply : Reply) : Type 0 where
  pub database : DatabaseParts
  pub state : after config history ≡ Ok database
  pub made : reply ≡ query_reply head.line head.session (held_at head ask (length history) database)
      (lacks_memory ask)

-- what is kept behind the commit of a line's act: what takes it back, where it was accepted
abbrev pub acts_behind : List KeptAct → Head → Result Kept EditFault → List KeptAct
acts_behind acts head (Ok done) = acts ++ kept_act head.session head.line done.inverse ∷ []
acts_behind acts head (Err fault) = acts

-- an act of a line was committed, and what takes it back is kept; the reply tells the commit's answer
pub record CommitsAct {D : Type 0} (may_leave : D → List ℕ → Type 0) (moment : D → ℕ)
    (left_since : D → ℕ → List ℕ → Type 0) (faults : D → ℕ) (old : BookParts D) (acts : List KeptAct) (head : Head)
    (act : Act) (reply : Reply) (new : BookParts D) (acts_now : List KeptAct) : Type 0 where
  pub made : Result Kept EditFault
  pub commits : Commits may_leave moment left_since faults old (head_entry head act) (numbered made) new
  pub inverse : KeepsInverse old.config old.history act made
  pub told : (request : Request) → reply ≡ commit_reply (head_line head request) (numbered made)
  pub behind : acts_now ≡ acts_behind acts head made

-- a line that leaves the book and what is kept of it, and is answered so
pub record LeavesBook {D : Type 0} (old : BookParts D) (acts : List KeptAct) (answered : Reply) (reply : Reply)
    (new : BookParts D) (acts_now : List KeptAct) : Type 0 where
  pub book : new ≡ old
  pub behind : acts_now ≡ acts
  pub told : reply ≡ answered

-- the act of a line, or the fault of its TextGrid, for which it is refused
abbrev pub EditsBook : {D : Type 0} → (D → List ℕ → Type 0) → (D → ℕ) → (D → ℕ → List ℕ → Type 0) → (D → ℕ)
    → BookParts D → List KeptAct → Head → Result Act GridFault → Reply → BookParts D → List KeptAct → Type 0
EditsBook may_leave moment left_since faults old acts head (Ok act) reply new acts_now =
    CommitsAct may_leave moment left_since faults old acts head act reply new acts_now
EditsBook may_leave moment left_since faults old acts head (Err fault) reply new acts_now =
    LeavesBook old acts (grid_told head (length old.history) fault) reply new acts_now

-- an `undo`, by what is kept of the line that it names
abbrev pub UndoesBook : {D : Type 0} → (D → List ℕ → Type 0) → (D → ℕ) → (D → ℕ → List ℕ → Type 0) → (D → ℕ)
    → BookParts D → List KeptAct → Head → Option (Result Act NoUndo) → Reply → BookParts D → List KeptAct → Type 0
UndoesBook may_leave moment left_since faults old acts head None reply new acts_now =
    LeavesBook old acts (head_reply head None (Refused refusals.NotAccepted)) reply new acts_now
UndoesBook may_leave moment left_since faults old acts head (Some (Err fault)) reply new acts_now =
    LeavesBook old acts (head_reply head None (Refused (undo_refusal fault))) reply new acts_now
UndoesBook may_leave moment left_since faults old acts head (Some (Ok act)) reply new acts_now =
    CommitsAct may_leave moment left_since faults old acts head act reply new acts_now

-- A line was taken: it is answered, each look that is open then has the database of its moment, and what is kept takes
-- back each entry that came
pub record IsTaken {D : Type 0} (may_leave : D → List ℕ → Type 0) (moment : D → ℕ)
    (left_since : D → ℕ → List ℕ → Type 0) (faults : D → ℕ) (old : BookParts D) (looks : List (Option Held))
    (acts : List KeptAct) (l : Line) (reply : Reply) (new : BookParts D) (looks_now : List (Option Held))
    (acts_now : List KeptAct) : Type 0 where
  pub answers : Answers may_leave moment left_since faults (run_of old looks acts) l reply
      (run_of new looks_now acts_now)
  pub held : AreHeld new.config new.history looks_now
  pub keeps : KeepsActs new.config new.history acts_now
