-- The answers of a commit.
use Rattle.std.specs.Prelude.{◌≡◌, ◌⊎◌, ℕ, suc, ◌<◌, ◌≤◌, List, [], ◌∷◌, ◌++◌, length, Bool, true, false, Option, None, Some, Result, Ok, Err, IsErrOf}
use Rattle.emu_names.specs.Count.{Rose}
use Rattle.emu_names.specs.declared.limits.TheConstants.{HISTORY_EDITS}
use Rattle.db_config.specs.declared.parts.ConfigParts.{ConfigParts}
use Rattle.version_steps.specs.edit_rules.declared.acts.Act.{Act}
use Rattle.version_steps.specs.edit_rules.declared.acts.Entry.{Entry}
use Rattle.version_steps.specs.edit_rules.Effects.{edited}
use Rattle.version_steps.specs.edit_rules.Database.{DatabaseParts}
use Rattle.edit_journal.specs.declared.journal.Journal.{Journal}
use Rattle.version_steps.specs.edit_rules.declared.commit_fault.EditFault.{EditFault}
use Rattle.version_steps.specs.edit_rules.declared.commit_fault.EditFault.TheVariants.{HistoryFull, Broken, StoreFull, Disk, Memory}
use Rattle.live_book.specs.Histories.{PassesLimit, Stands}
use Rattle.version_gate.specs.declared.entry.Entry.{Entry as Numbered}
use Rattle.version_gate.specs.Lists.{entry}
use Rattle.live_book.specs.declared.published.Published.{Published}
use Rattle.live_book.specs.Kept.{BookParts, KeepsIn, IsAsBefore, StandsOrLost, CrashLeaves, faults_in}
pub use Rattle.version_steps.specs.Drafts.{entry_of}

-- there is a journal
abbrev pub has_journal : {D : Type 0} → Option (Journal D) → Bool
has_journal None = false
has_journal (Some journal) = true

-- the history has room for one entry more
abbrev pub HasRoom : List Entry → Type 0
HasRoom history = length history < HISTORY_EDITS

-- an act breaks no rule after a history
abbrev pub BreaksNone : ConfigParts → List Entry → Act → Type 0
BreaksNone config history act = (database : DatabaseParts) × (edited config history act ≡ Ok database)

-- there is a store, and the entry would bring it past its limit
abbrev pub IsTooMuch : Bool → ConfigParts → List Entry → Entry → Type 0
IsTooMuch stored config history next = (stored ≡ true) × PassesLimit config history next

-- nothing but want of memory or a fault of the disk refuses an entry: there is room for it, it breaks no
-- rule, and the store, if there is one, does not pass its limit with it
pub record IsWelcome (stored : Bool) (config : ConfigParts) (history : List Entry) (next : Entry)
    : Type 0 where
  pub room : HasRoom history
  pub breaks_none : BreaksNone config history next.act
  pub fits : IsTooMuch stored config history next → ⊥

-- When a commit gives each of its answers. The number is how many entries stand after it. The refusals come
-- in this order: the history is full; the first edit that breaks a rule, and the rule; the store is full; the disk failed.
-- Want of memory may come in place of each.
abbrev pub IsAnswer : Bool → ConfigParts → List Entry → Entry → Result ℕ EditFault → Type 0
IsAnswer stored config history next (Ok n) =
    (n ≡ suc (length history)) × IsWelcome stored config history next
IsAnswer stored config history next (Err (HistoryFull n)) =
    (n ≡ length history) × (length history ≡ HISTORY_EDITS)
IsAnswer stored config history next (Err (Broken breach n)) =
    (n ≡ length history) × HasRoom history × (edited config history next.act ≡ Err breach)
IsAnswer stored config history next (Err (StoreFull n)) =
    (n ≡ length history) × HasRoom history × BreaksNone config history next.act
    × IsTooMuch stored config history next
IsAnswer stored config history next (Err Disk) = (stored ≡ true) × IsWelcome stored config history next
IsAnswer stored config history next (Err Memory) = Unit {0}

-- the history behind a commit: an accepted entry stands last, a refused one nowhere
abbrev pub history_behind : List Entry → Entry → Result ℕ EditFault → List Entry
history_behind history next (Ok n) = history ++ next ∷ []
history_behind history next (Err fault) = history

-- what a commit leaves in the journal: after Ok nothing is in doubt; after a fault of the disk perhaps the
-- entry; after another refusal all is as before
abbrev pub LeavesKept : {D : Type 0} → (D → List ℕ → Type 0) → ConfigParts → List Entry → Option Entry
    → Entry → Result ℕ EditFault → Option (Journal D) → Type 0
LeavesKept may_leave config history lost next (Ok n) journal =
    KeepsIn may_leave config (history ++ next ∷ []) None journal
LeavesKept may_leave config history lost next (Err Disk) journal =
    IsAsBefore may_leave config history lost next journal
LeavesKept may_leave config history lost next (Err fault) journal =
    KeepsIn may_leave config history lost journal

-- a commit with this answer called the disk
abbrev pub Reaches : {T : Type 0} → Result T EditFault → Type 0
Reaches (Ok n) = Unit {0}
Reaches (Err Disk) = Unit {0}
Reaches (Err fault) = ⊥

-- what a crash leaves at any moment of a commit: the history from before, or also the entry in doubt, or,
-- where the commit called the disk, the history with the new entry
abbrev pub DuringCommit : {T : Type 0} → Result T EditFault → ConfigParts → List Entry → Option Entry
    → Entry → List ℕ → Type 0
DuringCommit result config history lost next c =
    StandsOrLost config history lost c
    ⊎ (Reaches result × Stands config (history ++ next ∷ []) c)

-- P is said of the configuration and of whatever entry is in doubt
abbrev pub ForKept : {D : Type 0} → (D → List ℕ → Type 0) → ConfigParts → List Entry → Option (Journal D)
    → (Option Entry → Type 0) → Type 0
ForKept may_leave config history journal P =
    (lost : Option Entry) → KeepsIn may_leave config history lost journal → P lost

-- the published list behind a commit: an accepted entry's version stands last, under its number; a refused
-- one has none
abbrev pub IsListBehind : List (Numbered Published) → List (Numbered Published) → Result ℕ EditFault → Type 0
IsListBehind old new (Ok n) = (version : Published) × (new ≡ old ++ entry n version ∷ [])
IsListBehind old new (Err fault) = new ≡ old

-- what no commit changes in a book
pub record IsSameBook {D : Type 0} (old new : BookParts D) : Type 0 where
  pub config : new.config ≡ old.config
  pub opened : new.opened ≡ old.opened
  pub gate : new.gate ≡ old.gate
  pub stored : has_journal new.journal ≡ has_journal old.journal

-- What a commit promises. Its answer is right for the entries that stood before; the history, the published
-- list and the journal are those behind the answer; a crash at any moment leaves what it may; and the disk's
-- count never falls, and rose where the answer is that the disk failed
pub record Commits {D : Type 0} (may_leave : D → List ℕ → Type 0) (moment : D → ℕ)
    (left_since : D → ℕ → List ℕ → Type 0) (faults : D → ℕ) (old : BookParts D) (next : Entry)
    (result : Result ℕ EditFault) (new : BookParts D) : Type 0 where
  pub right : IsAnswer (has_journal old.journal) old.config old.history next result
  pub same : IsSameBook old new
  pub history : new.history ≡ history_behind old.history next result
  pub list : IsListBehind old.list new.list result
  pub kept : ForKept may_leave old.config old.history old.journal (λ lost.
      LeavesKept may_leave old.config old.history lost next result new.journal)
  pub any_moment : ForKept may_leave old.config old.history old.journal (λ lost.
      CrashLeaves moment left_since old.journal new.journal (
      DuringCommit result old.config old.history lost next))
  pub later : faults_in faults old.journal ≤ faults_in faults new.journal
  pub disk : IsErrOf result Disk → Rose (faults_in faults old.journal) (faults_in faults new.journal)
