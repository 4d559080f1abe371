-- Words of contracts and loops beside `specs/Runs.antt`; no promise of the program rests on them.
use Rattle.std.specs.Prelude.{◌≡◌, ℕ, ◌+◌, List, ◌++◌, length, None, Result, Ok, Err}
use Rattle.emu_names.specs.declared.shortage.Memory.{Memory}
use Rattle.edit_rules.specs.declared.acts.Entry.{Entry}
use Rattle.live_seats.specs.session_core.declared.line.Line.{Line}
use Rattle.live_seats.specs.session_core.Legal.{Legal, disk_replies}
use Rattle.live_seats.specs.live_book.Kept.{BookParts, KeepsIn, faults_in}
use Rattle.live_seats.specs.live_book.Commits.{IsSameBook, has_journal}
use Rattle.live_seats.specs.Marks.{marks_from}
use Rattle.live_run.specs.declared.run.Ended.{Ended}
use Rattle.live_run.specs.Runs.{AreGrouped}

-- The lines were run: the replies are legal beside the book's history, which goes on from the one before; they are
-- grouped by session; there is a mark of each new entry, in order; and where the disk answered no line, nothing in the
-- journal is in doubt
pub record RunsLive {D : Type 0} (may_leave : D → List ℕ → Type 0) (faults : D → ℕ) (old : BookParts D)
    (lines : List Line) (ended : Ended) (new : BookParts D) : Type 0 where
  pub from : ended.from ≡ length old.history
  pub legal : Legal old.config old.history lines ended.replies new.history (has_journal old.journal)
      (faults_in faults old.journal) (faults_in faults new.journal)
  pub order : AreGrouped ended.replies
  pub more : List Entry
  pub prefix : new.history ≡ old.history ++ more
  pub marks : ended.marks ≡ marks_from (length old.history + 1) more
  pub in_doubt : disk_replies ended.replies ≡ 0 → KeepsIn may_leave new.config new.history None new.journal

-- how a live run ends: the lines were run, or memory ran out before the first one, and the book is as it was
abbrev pub EndsLive : {D : Type 0} → (D → List ℕ → Type 0) → (D → ℕ) → BookParts D → List Line
    → Result Ended Memory → BookParts D → Type 0
EndsLive may_leave faults old lines (Ok ended) new =
    IsSameBook old new × RunsLive may_leave faults old lines ended new
EndsLive may_leave faults old lines (Err want) new = new ≡ old
