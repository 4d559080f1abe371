-- What an opened store has.
use Rattle.std.proofs.Common.{◌≡◌, ℕ, ◌≤◌, true, List, Option, Some, None, refl, subst}
use Rattle.emu_disk.specs.declared.disk.Disk as disks
use Rattle.edit_journal.specs.declared.journal.Journal.{Journal}
use Rattle.version_gate.specs.Lists.{Front}
use Rattle.live_run.specs.live_book.declared.published.Published.{Published}
use Rattle.live_run.specs.live_book.Histories.{OfRead, IsBare, Stands}
use Rattle.live_run.specs.live_book.Kept.{BookParts, KeepsIn, faults_in}
use Rattle.live_run.specs.live_book.Commits.{has_journal}
use Rattle.book_opening.specs.declared.opening.Opened.{Opened}
use Rattle.book_opening.specs.declared.opening.Opened.TheVariants as stores
use Rattle.book_opening.specs.Inner.Opens.{AreAtFront, IsEmpty, IsOpenedAs, LeavesFrom, journal_in}
use Rattle.script_runs.specs.Inner.Ran.{BeginsBefore}
use Rattle.script_runs.specs.Inner.Reached.{LeavesSince}
use Rattle.script_runs.proofs.EndLemmas.{begins_before}

module _ {D : Type 0} (may_leave : D → List ℕ → Type 0) (reads : Option (List ℕ)) (readers : ℕ) where
  -- the book of a store with a configuration
  pub record HasBook (b : BookParts D) (passes : List (Front Published)) : Type 0 where
    pub begins : OfRead reads (Stands b.config b.history)
    pub keeps : KeepsIn may_leave b.config b.history None b.journal
    pub stored : has_journal b.journal ≡ true
    pub front : AreAtFront readers b passes

  pub some_opened : (opened : Opened D) (b : BookParts D) (passes : List (Front Published)) → opened ≡ stores.Stored b passes → IsOpenedAs may_leave reads readers opened → HasBook b passes
  some_opened opened b passes e h = let o = subst (λ x. IsOpenedAs may_leave reads readers x) e h in record { begins = o.0; keeps = o.2; stored = o.3; front = o.4 }

  -- the journal of a bare store
  pub record HasNone (journal : Option (Journal D)) : Type 0 where
    pub begins : OfRead reads IsBare
    pub empty : IsEmpty may_leave journal
    pub stored : has_journal journal ≡ true

  pub none_opened : (opened : Opened D) (j : Journal D) → opened ≡ stores.Bare j → IsOpenedAs may_leave reads readers opened → HasNone (Some j)
  none_opened opened j e h = let o = subst (λ x. IsOpenedAs may_leave reads readers x) e h in record { begins = o.0; empty = o.1; stored = refl }

pub some_begins : {D : Type 0} (faults : D → ℕ) (opened : Opened D) (b : BookParts D) (passes : List (Front Published)) (begin : D) → opened ≡ stores.Stored b passes → faults begin ≤ faults_in faults (journal_in opened) → BeginsBefore faults b.journal begin
some_begins faults opened b passes begin e low = begins_before faults b.journal begin (subst (λ x. faults begin ≤ faults_in faults (journal_in x)) e low)

pub none_begins : {D : Type 0} (faults : D → ℕ) (opened : Opened D) (j : Journal D) (begin : D) → opened ≡ stores.Bare j → faults begin ≤ faults_in faults (journal_in opened) → BeginsBefore faults (Some j) begin
none_begins faults opened j begin e low = begins_before faults (Some j) begin (subst (λ x. faults begin ≤ faults_in faults (journal_in x)) e low)

-- no image was new while it was opened
from_since : {D : Type 0} (disk : disks.Ghosts D) (journal : Option (Journal D)) (begin : D) (P : List ℕ → Type 0) → LeavesFrom disk.moment disk.left_since begin journal P → LeavesSince disk begin journal P
from_since disk None begin P h = tt
from_since disk (Some journal) begin P h = h

pub some_since : {D : Type 0} (disk : disks.Ghosts D) (opened : Opened D) (b : BookParts D) (passes : List (Front Published)) (begin : D) (P : List ℕ → Type 0) → opened ≡ stores.Stored b passes → LeavesFrom disk.moment disk.left_since begin (journal_in opened) P → LeavesSince disk begin b.journal P
some_since disk opened b passes begin P e h = from_since disk b.journal begin P (subst (λ x. LeavesFrom disk.moment disk.left_since begin (journal_in x) P) e h)

pub none_since : {D : Type 0} (disk : disks.Ghosts D) (opened : Opened D) (j : Journal D) (begin : D) (P : List ℕ → Type 0) → opened ≡ stores.Bare j → LeavesFrom disk.moment disk.left_since begin (journal_in opened) P → LeavesSince disk begin (Some j) P
none_since disk opened j begin P e h = from_since disk (Some j) begin P (subst (λ x. LeavesFrom disk.moment disk.left_since begin (journal_in x) P) e h)
