-- Words of contracts and loops beside `specs/Orders.antt`; no promise of the program rests on them.
use Rattle.std.specs.Prelude.{◌≡◌, ◌⊎◌, ◌≤◌, ℕ, List, [], ◌∷◌, replicate, Option, None, Some, Result}
use Rattle.emu_names.specs.Count.{RoseBy}
use Rattle.edit_rules.specs.declared.acts.Act.{Act}
use Rattle.edit_rules.specs.declared.acts.Entry.{Entry}
use Rattle.query_workers.specs.session_core.declared.line.Line.{Line}
use Rattle.query_workers.specs.session_core.declared.line.Reply.{Reply}
use Rattle.query_workers.specs.session_core.Answers.{entry_of}
use Rattle.query_workers.specs.session_core.Inner.Told.{commit_reply}
use Rattle.query_workers.specs.session_core.InOrder.{Outage, one_turn, disk_outages}
use Rattle.query_workers.specs.session_core.Steps.{Opened, State, session_places}
use Rattle.query_workers.specs.session_core.Worlds.{act_wanted}
use Rattle.edit_rules.specs.declared.commit_fault.EditFault.{EditFault}
use Rattle.live_book.specs.Kept.{BookParts, KeepsIn, faults_in}
use Rattle.live_book.specs.Commits.{Commits, ForKept, IsSameBook, has_journal}
use Rattle.session_run.specs.Orders.{IsDiskRefused}

-- what contracts see of a run in order: its book, how many entries that began with, and the open look of each session
pub record OrderParts (D : Type 0) : Type 0 where
  pub book : BookParts D
  pub base : ℕ
  pub looks : List (Option Opened)

-- a run as a state of the core; between two lines no query is under way
abbrev pub state_of : {D : Type 0} → OrderParts D → State
state_of run = record {
  config = run.book.config;
  entries = run.book.history;
  base = run.base;
  looks = run.looks;
  queries = replicate session_places None;
}

-- The line of an edit.

-- the act of a line was committed, and the reply tells the commit's answer
pub record IsCommitted {D : Type 0} (may_leave : D → List ℕ → Type 0) (moment : D → ℕ)
    (left_since : D → ℕ → List ℕ → Type 0) (faults : D → ℕ) (old : BookParts D) (l : Line) (act : Act)
    (reply : Reply) (new : BookParts D) : Type 0 where
  pub made : Result ℕ EditFault
  pub commits : Commits may_leave moment left_since faults old (entry_of l act) made new
  pub told : reply ≡ commit_reply l made

-- what a line does to the book: the commit of the act that it wants, and nothing else
abbrev pub ChangesBook : {D : Type 0} → (D → List ℕ → Type 0) → (D → ℕ) → (D → ℕ → List ℕ → Type 0) → (D → ℕ)
    → BookParts D → Line → Option Act → Reply → BookParts D → Type 0
ChangesBook may_leave moment left_since faults old l None reply new = new ≡ old
ChangesBook may_leave moment left_since faults old l (Some act) reply new =
    IsCommitted may_leave moment left_since faults old l act reply new

-- What a line leaves in the journal: the book's configuration and history. In doubt is nothing, or what was in
-- doubt before, or the entry of the line, where the disk refused it
pub record LeftBehind {D : Type 0} (may_leave : D → List ℕ → Type 0) (st : State) (l : Line) (reply : Reply)
    (lost : Option Entry) (book : BookParts D) : Type 0 where
  pub left : Option Entry
  pub keeps : KeepsIn may_leave book.config book.history left book.journal
  pub which : (left ≡ None) ⊎ (left ≡ lost) ⊎ ((next : Entry) × (left ≡ Some next) × IsDiskRefused st l reply next)

-- The answer to a line. Its reply and the state behind it are those of the core's turn, in which perhaps memory
-- ran out or the disk failed, and the disk's count rose where it failed; the book is changed by the commit of the act
-- that the line wants alone
pub record Answers {D : Type 0} (may_leave : D → List ℕ → Type 0) (moment : D → ℕ)
    (left_since : D → ℕ → List ℕ → Type 0) (faults : D → ℕ) (old : OrderParts D) (l : Line)
    (reply : Reply) (new : OrderParts D) : Type 0 where
  pub outage : Outage
  pub turn : one_turn (has_journal old.book.journal) (state_of old) l outage ≡ (reply, state_of new)
  pub same : IsSameBook old.book new.book
  pub change : ChangesBook may_leave moment left_since faults old.book l
      (act_wanted (state_of old) l.session.0 l.request) reply new.book
  pub kept : ForKept may_leave old.book.config old.book.history old.book.journal (λ lost.
      LeftBehind may_leave (state_of old) l reply lost new.book)
  pub rose : RoseBy (disk_outages (has_journal old.book.journal) (outage ∷ []))
      (faults_in faults old.book.journal) (faults_in faults new.book.journal)
  pub later : faults_in faults old.book.journal ≤ faults_in faults new.book.journal
