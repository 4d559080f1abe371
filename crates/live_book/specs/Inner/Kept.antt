-- Words of contracts and loops beside `specs/Kept.antt`; no promise of the program rests on them.
use Rattle.std.specs.Prelude.{◌≡◌, ◌⊎◌, ℕ, ◌+◌, ◌≤◌, List, [], ◌∷◌, ◌++◌, length, take, drop, Option, Ok, IsTrue}
use Rattle.std.specs.Arc.{arc_value}
use Rattle.emu_names.specs.declared.limits.TheConstants.{HISTORY_EDITS}
use Rattle.db_config.specs.declared.parts.ConfigParts.{ConfigParts}
use Rattle.db_config.specs.Valid.{is_valid}
use Rattle.version_steps.specs.edit_rules.declared.acts.Act.{Act}
use Rattle.version_steps.specs.edit_rules.declared.acts.Act.TheVariants as acts
use Rattle.version_steps.specs.edit_rules.declared.acts.Entry.{Entry}
use Rattle.version_steps.specs.edit_rules.Database.{DatabaseParts}
use Rattle.version_steps.specs.edit_rules.Effects.{after}
use Rattle.edit_journal.specs.declared.journal.Journal.{Journal}
use Rattle.version_gate.specs.Lists.{EndsIn, entry}
use Rattle.version_gate.specs.Inner.Lists.{Board}
use Rattle.live_book.specs.declared.published.Published.{Published}
use Rattle.live_book.specs.declared.parts.Parts.{Parts}
use Rattle.live_book.specs.Histories.{Stands}
use Rattle.live_book.specs.Published.{IsStateAfter, AreShown}
use Rattle.live_book.specs.Kept.{KeepsIn, StandsOrLost, BookParts}

-- while an entry is stored, a crash leaves the history from before, or also the entry in doubt in the new
-- one's place, or the history with the new one
abbrev pub DuringStore : ConfigParts → List Entry → Option Entry → Entry → List ℕ → Type 0
DuringStore config history lost next c =
    StandsOrLost config history lost c ⊎ Stands config (history ++ next ∷ []) c

-- the configuration of a book's opening, which its journal holds
abbrev pub config_in : {D : Type 0} → Parts D → ConfigParts
config_in parts = parts.opening

-- the configuration that is in force
abbrev pub present_in : {D : Type 0} → Parts D → ConfigParts
present_in parts = (arc_value parts.current).version.config

-- this is the configuration of each state after so many entries or more
abbrev pub HasConfigSince : ConfigParts → List Entry → ℕ → ConfigParts → Type 0
HasConfigSince own entries since config =
    (n : ℕ) (database : DatabaseParts) → since ≤ n → n ≤ length entries → after own (take n entries) ≡ Ok database
    → database.config ≡ config

-- since how many entries the configuration behind an act has been in force, where so many stood before it
abbrev pub since_behind : Act → ℕ → ℕ → ℕ
since_behind (acts.Edits es) since count = since
since_behind (acts.Config edit) since count = count + 1

-- the journal of a book, if it has one, holds its configuration and history
abbrev pub Holding : {D : Type 0} → (D → List ℕ → Type 0) → ConfigParts → List Entry
    → Option (Journal D) → Type 0
Holding may_leave config history journal =
    (lost : Option Entry) × KeepsIn may_leave config history lost journal

-- What a book always keeps, of its opening's configuration, its version in force, its entries, how many of them
-- stood at the opening, since how many the configuration in force has been so, what its publisher has, and its
-- journal
pub record IsBookOf {D : Type 0} (may_leave : D → List ℕ → Type 0) (own : ConfigParts) (current : Published)
    (entries : List Entry) (opened since : ℕ) (board : Board Published) (journal : Option (Journal D)) : Type 0 where
  pub valid : IsTrue (is_valid own)
  pub few : length entries ≤ HISTORY_EDITS
  pub opened_some : opened ≤ length entries
  pub settled : HasConfigSince own entries since current.version.config
  pub number : board.number ≡ length entries
  pub state : IsStateAfter own entries current.version
  pub shown : AreShown own (take opened entries) (drop opened entries) board.list
  pub last : EndsIn board.list (entry (length entries) current)
  pub held : Holding may_leave own entries journal

-- what the fields of a book always keep
abbrev pub IsBook : {D : Type 0} → (D → List ℕ → Type 0) → Parts D → Type 0
IsBook may_leave parts =
    IsBookOf may_leave parts.opening (arc_value parts.current) parts.entries parts.opened parts.since parts.publisher
    parts.journal

-- what contracts see of a book's fields
abbrev pub book_of : {D : Type 0} → Parts D → BookParts D
book_of parts = record {
  config = config_in parts;
  history = parts.entries;
  opened = parts.opened;
  journal = parts.journal;
  gate = parts.publisher.gate;
  list = parts.publisher.list;
}
