-- What a book keeps: its state is the replay of its history, and its journal holds the codes of the
-- configuration and of the entries.
use Rattle.std.specs.Prelude.{◌≡◌, ◌⊎◌, ℕ, List, [], ◌∷◌, ◌++◌, Option, None, Some}
use Rattle.std.specs.Option.{option_map}
use Rattle.db_config.specs.declared.parts.ConfigParts.{ConfigParts}
use Rattle.version_steps.specs.edit_rules.declared.acts.Entry.{Entry}
use Rattle.edit_code.specs.Codes.{entry_code}
use Rattle.edit_journal.specs.declared.journal.Journal.{Journal}
use Rattle.edit_journal.specs.Held.{Holds, count_in, LeavesIn}
use Rattle.logbook.specs.Pages.{Book as GateName}
use Rattle.version_gate.specs.declared.entry.Entry.{Entry as Numbered}
use Rattle.live_book.specs.declared.published.Published.{Published}
use Rattle.live_book.specs.Histories.{codes_of, IsHistory, IsCoded, IsStorable, Stands}

-- an entry may follow a history in a store: it has a code, and with it the history breaks no rule and is
-- not too long
pub record MayFollow (config : ConfigParts) (history : List Entry) (next : Entry) : Type 0 where
  pub coded : IsCoded next
  pub is_history : IsHistory config (history ++ next ∷ [])

-- the entry in doubt, if there is one, may follow the history
abbrev pub LostMayFollow : ConfigParts → List Entry → Option Entry → Type 0
LostMayFollow config history None = Unit {0}
LostMayFollow config history (Some next) = MayFollow config history next

-- A journal holds the codes of a configuration and of a history, and perhaps one entry more is in doubt
pub record Keeps {D : Type 0} (may_leave : D → List ℕ → Type 0) (config : ConfigParts)
    (history : List Entry) (lost : Option Entry) (journal : Journal D) : Type 0 where
  pub storable : IsStorable config history
  pub lost_fits : LostMayFollow config history lost
  pub held : Holds may_leave (codes_of config history) (option_map entry_code lost) journal

-- the same where there is a journal; without one nothing is in doubt
abbrev pub KeepsIn : {D : Type 0} → (D → List ℕ → Type 0) → ConfigParts → List Entry → Option Entry
    → Option (Journal D) → Type 0
KeepsIn may_leave config history lost None = lost ≡ None
KeepsIn may_leave config history lost (Some journal) = Keeps may_leave config history lost journal

-- a failed commit leaves the history as it was; in doubt may be what was in doubt before, or the entry that
-- failed
pub record IsAsBefore {D : Type 0} (may_leave : D → List ℕ → Type 0) (config : ConfigParts)
    (history : List Entry) (lost : Option Entry) (next : Entry) (journal : Option (Journal D)) : Type 0 where
  pub left : Option Entry
  pub keeps : KeepsIn may_leave config history left journal
  pub which : (left ≡ None) ⊎ (left ≡ lost) ⊎ (left ≡ Some next)

-- the bytes stand for the history, or also for it with the entry in doubt
abbrev pub StandsOrLost : ConfigParts → List Entry → Option Entry → List ℕ → Type 0
StandsOrLost config history None c = Stands config history c
StandsOrLost config history (Some next) c = Stands config history c ⊎ Stands config (history ++ next ∷ []) c

-- a crash at any moment since a journal was the old one leaves bytes that have P; without a journal there
-- is no crash
abbrev pub CrashLeaves : {D : Type 0} → (D → ℕ) → (D → ℕ → List ℕ → Type 0) → Option (Journal D)
    → Option (Journal D) → (List ℕ → Type 0) → Type 0
CrashLeaves moment left_since None None P = Unit {0}
CrashLeaves moment left_since (Some old) (Some new) P = LeavesIn moment left_since old new P
CrashLeaves moment left_since _ _ P = ⊥

-- a count of the disk, which is 0 where there is no journal
abbrev pub faults_in : {D : Type 0} → (D → ℕ) → Option (Journal D) → ℕ
faults_in faults None = 0
faults_in faults (Some journal) = count_in faults journal

-- What contracts see of a book: its configuration, all entries and how many of them stood at the opening,
-- its journal, its gate, and the published list
pub record BookParts (D : Type 0) : Type 0 where
  pub config : ConfigParts
  pub history : List Entry
  pub opened : ℕ
  pub journal : Option (Journal D)
  pub gate : GateName
  pub list : List (Numbered Published)
