-- Words of contracts and loops beside `specs/Opens.antt`; no promise of the program rests on them.
use Rattle.std.specs.Prelude.{◌≡◌, ℕ, ◌≤◌, ◌<◌, List, [], ◌∷◌, ◌++◌, length, All, Bool, true, Option, None, Some, IsTrue}
use Rattle.emu_names.specs.Count.{Rose}
use Rattle.emu_names.specs.declared.limits.TheConstants.{HISTORY_EDITS}
use Rattle.db_config.specs.declared.parts.ConfigParts.{ConfigParts}
use Rattle.db_config.specs.Valid.{is_valid}
use Rattle.emu_disk.specs.Disk.{LeavesOnly}
use Rattle.edit_journal.specs.declared.body.Body.{Body}
use Rattle.edit_journal.specs.declared.journal.Journal.{Journal}
use Rattle.edit_journal.specs.Held.{Holds, disk_of, texts_of}
use Rattle.version_gate.specs.Lists.{Front, front}
use Rattle.live_book.specs.declared.published.Published.{Published}
use Rattle.book_opening.specs.declared.fault.OpenFault.{OpenFault}
use Rattle.book_opening.specs.declared.fault.OpenFault.TheVariants.{Disk, Damaged, StoreFull, Memory}
use Rattle.book_opening.specs.declared.opening.Opened.{Opened}
use Rattle.book_opening.specs.declared.opening.Opened.TheVariants as stores
use Rattle.book_opening.specs.declared.replay.Replayed.{Replayed}
use Rattle.live_book.specs.Histories.{Stands, IsBare, IsDamagedAt, IsWrongBehind, OfRead, AreEntryCodes}
use Rattle.live_book.specs.Published.{IsStateAfter}
use Rattle.live_book.specs.Kept.{BookParts, KeepsIn}
use Rattle.live_book.specs.Commits.{has_journal}
use Rattle.book_opening.specs.Opens.{IsHeadTooMuch}

-- the passes of a book: at least one, at most so many, and each has the whole published list
pub record AreAtFront {D : Type 0} (readers : ℕ) (book : BookParts D) (passes : List (Front Published))
    : Type 0 where
  pub each : All (λ p. p ≡ front book.gate book.list) passes
  pub some : 0 < length passes
  pub most : length passes ≤ readers

-- a journal, if there is one, has no bodies, and nothing is in doubt
abbrev pub IsEmpty : {D : Type 0} → (D → List ℕ → Type 0) → Option (Journal D) → Type 0
IsEmpty may_leave None = Unit {0}
IsEmpty may_leave (Some journal) = Holds may_leave [] None journal

-- a book of a configuration without entries, in whose journal nothing is in doubt
pub record IsNew {D : Type 0} (may_leave : D → List ℕ → Type 0) (own : ConfigParts) (with_store : Bool)
    (book : BookParts D) : Type 0 where
  pub config : book.config ≡ own
  pub history : book.history ≡ []
  pub opened : book.opened ≡ 0
  pub kept : KeepsIn may_leave own [] None book.journal
  pub stored : has_journal book.journal ≡ with_store
  pub fits : IsHeadTooMuch with_store own → ⊥

-- a store was opened: its bytes stand for the book's configuration and history, and nothing is in doubt; or
-- they are bare, and there is no book
abbrev pub IsOpenedAs : {D : Type 0} → (D → List ℕ → Type 0) → Option (List ℕ) → ℕ → Opened D → Type 0
IsOpenedAs may_leave reads readers (stores.Stored book passes) =
    OfRead reads (Stands book.config book.history) × (book.opened ≡ length book.history)
    × KeepsIn may_leave book.config book.history None book.journal × (has_journal book.journal ≡ true)
    × AreAtFront readers book passes
IsOpenedAs may_leave reads readers (stores.Bare journal) = OfRead reads IsBare × Holds may_leave [] None journal

-- the journal of an opened store, which a book owns if there is one
abbrev pub journal_in : {D : Type 0} → Opened D → Option (Journal D)
journal_in (stores.Stored book passes) = book.journal
journal_in (stores.Bare journal) = Some journal

-- a crash at any moment since a disk was the old one, which a journal has now, leaves bytes that have P
abbrev pub LeavesFrom : {D : Type 0} → (D → ℕ) → (D → ℕ → List ℕ → Type 0) → D → Option (Journal D)
    → (List ℕ → Type 0) → Type 0
LeavesFrom moment left_since disk None P = ⊥
LeavesFrom moment left_since disk (Some journal) P = LeavesOnly moment left_since disk (disk_of journal) P

-- why a store was not opened
abbrev pub IsNoStoreFor : {D : Type 0} → Option (List ℕ) → (D → ℕ) → D → OpenFault → D → Type 0
IsNoStoreFor reads faults old Disk new = Rose (faults old) (faults new)
IsNoStoreFor reads faults old (Damaged at) new = OfRead reads (λ c. IsDamagedAt c at)
IsNoStoreFor reads faults old StoreFull new = ⊥
IsNoStoreFor reads faults old Memory new = Unit {0}

-- entries were read of their codes, and their version was made
pub record IsReplay (own : ConfigParts) (texts : List (List ℕ)) (replayed : Replayed) : Type 0 where
  pub valid : IsTrue (is_valid own)
  pub opening : replayed.opening ≡ own
  pub entries : AreEntryCodes texts replayed.entries
  pub few : length replayed.entries ≤ HISTORY_EDITS
  pub state : IsStateAfter own replayed.entries replayed.version

-- the first of these bodies that cannot stand where it stands
pub record IsWrongIn (bodies : List Body) (at : ℕ) : Type 0 where
  pub front : List Body
  pub wrong : Body
  pub behind : List Body
  pub split : bodies ≡ front ++ wrong ∷ behind
  pub place : at ≡ wrong.at
  pub is_wrong : IsWrongBehind (texts_of front) wrong.bytes

-- why no entry or history was read
abbrev pub IsWrong : (ℕ → Type 0) → OpenFault → Type 0
IsWrong P Disk = ⊥
IsWrong P (Damaged at) = P at
IsWrong P StoreFull = ⊥
IsWrong P Memory = Unit {0}
