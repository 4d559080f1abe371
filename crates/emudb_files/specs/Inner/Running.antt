-- A `load` under way, step by step.
use Rattle.std.specs.Prelude.{◌≡◌, ◌⊎◌, ℕ, List, ◌++◌, map, true, Option, None, Result, Ok, Err}
use mathlib.Core.List.{IsPrefix}
use Rattle.emu_io.specs.declared.tree.Stored.{Stored}
use Rattle.store_texts.specs.edit_rules.declared.acts.Act.{Act}
use Rattle.store_texts.specs.edit_rules.declared.acts.Entry.{Entry}
use Rattle.book_opening.specs.live_book.Kept.{BookParts, KeepsIn}
use Rattle.book_opening.specs.live_book.Commits.{has_journal}
use Rattle.store_texts.specs.declared.faults.Refused.{Refused}
use Rattle.store_texts.specs.declared.faults.CommandFault.{CommandFault}
use Rattle.emudb_files.specs.Answers.{Told}
use Rattle.emudb_files.specs.Stored.{own_entry, AddBundles, IsOneMore, IsPart, IsStop, LeavesAlong}

-- a book has a journal, which keeps its configuration and history, and in which this is in doubt
pub record IsKept {D : Type 0} (may_leave : D → List ℕ → Type 0) (lost : Option Entry) (book : BookParts D)
    : Type 0 where
  pub stored : has_journal book.journal ≡ true
  pub keeps : KeepsIn may_leave book.config book.history lost book.journal

-- these edits were accepted behind a book's history, each as an entry of the program
pub record IsBehind {D : Type 0} (old : BookParts D) (more : List Act) (new : BookParts D) : Type 0 where
  pub config : new.config ≡ old.config
  pub history : new.history ≡ old.history ++ map own_entry more
  pub add : AddBundles more

-- all that is wanted was accepted, and nothing is in doubt
pub record Advances {D : Type 0} (may_leave : D → List ℕ → Type 0) (moment : D → ℕ)
    (left_since : D → ℕ → List ℕ → Type 0) (told : Option (List Stored))
    (wanted : List Stored → List (Result Act Refused)) (old new : BookParts D) : Type 0 where
  pub more : List Act
  pub is_behind : IsBehind old more new
  pub kept : IsKept may_leave None new
  pub all : Told told (λ content. wanted content ≡ map Ok more)
  pub moments : LeavesAlong moment left_since old.journal new.journal (IsPart new.config new.history)

-- while a run goes on that stops at this fault, an image stands for a beginning of its history, or for one edit more
abbrev pub DuringStop : {D : Type 0} → BookParts D → List (Result Act Refused) → CommandFault → List ℕ → Type 0
DuringStop book next fault c =
    IsPart book.config book.history c ⊎ IsOneMore book.config book.history next fault c

-- a front of what is wanted was accepted, and this fault came at what was taken next
pub record Stops {D : Type 0} (may_leave : D → List ℕ → Type 0) (moment : D → ℕ)
    (left_since : D → ℕ → List ℕ → Type 0) (told : Option (List Stored))
    (wanted : List Stored → List (Result Act Refused)) (old : BookParts D) (fault : CommandFault) (new : BookParts D)
    : Type 0 where
  pub more : List Act
  pub next : List (Result Act Refused)
  pub lost : Option Entry
  pub is_behind : IsBehind old more new
  pub kept : IsKept may_leave lost new
  pub why : IsStop new.config new.history next lost fault
  pub front : Told told (λ content. IsPrefix (map Ok more ++ next) (wanted content))
  pub moments : LeavesAlong moment left_since old.journal new.journal (DuringStop new next fault)

-- one or the other, by the answer
abbrev pub Goes : {D T : Type 0} → (D → List ℕ → Type 0) → (D → ℕ) → (D → ℕ → List ℕ → Type 0)
    → Option (List Stored) → (List Stored → List (Result Act Refused)) → BookParts D → Result T CommandFault
    → BookParts D → Type 0
Goes may_leave moment left_since told wanted old (Ok x) new = Advances may_leave moment left_since told wanted old new
Goes may_leave moment left_since told wanted old (Err fault) new =
    Stops may_leave moment left_since told wanted old fault new
