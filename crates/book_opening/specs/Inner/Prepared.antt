-- What opening a store, and making a book, have ready.
use Rattle.std.specs.Prelude.{◌≡◌, ℕ, List, [], ◌∷◌, ◌++◌, length, All, ◌<◌, ◌≤◌, IsTrue, true, Option, None, Some, Err}
use Rattle.std.specs.Arc.{arc_value}
use Rattle.db_config.specs.declared.parts.ConfigParts.{ConfigParts}
use Rattle.db_config.specs.Valid.{is_valid}
use Rattle.version_tree.specs.edit_rules.declared.acts.Act.{Act}
use Rattle.version_tree.specs.edit_rules.declared.acts.Breach.{Breach}
use Rattle.version_tree.specs.edit_rules.declared.acts.Entry.{Entry}
use Rattle.version_tree.specs.edit_rules.Effects.{effect}
use Rattle.live_book.specs.edit_code.Codes.{head_code, IsHeadCode}
use Rattle.edit_journal.specs.declared.body.Body.{Body}
use Rattle.edit_journal.specs.declared.fault.JournalFault.{JournalFault}
use Rattle.edit_journal.specs.declared.fault.JournalFault.TheVariants as journal_faults
use Rattle.edit_journal.specs.declared.journal.Journal.{Journal}
use Rattle.edit_journal.specs.Held.{texts_of}
use Rattle.version_gate.specs.Lists.{Front, front, entry}
use Rattle.version_tree.specs.Version.{VersionParts, state_of}
use Rattle.version_tree.specs.Inner.Version.{first_version}
use Rattle.book_opening.specs.declared.fault.OpenFault.{OpenFault}
use Rattle.book_opening.specs.declared.fault.OpenFault.TheVariants as open_faults
use Rattle.live_book.specs.declared.published.Published.{Published}
use Rattle.book_opening.specs.declared.making.Shown.{Shown}
use Rattle.book_opening.specs.declared.making.Begun.{Begun}
use Rattle.book_opening.specs.declared.opening.Opened.{Opened}
use Rattle.book_opening.specs.declared.opening.Opened.TheVariants as stores
use Rattle.book_opening.specs.declared.replay.Replayed.{Replayed}
use Rattle.live_book.specs.Histories.{codes_of, IsHistory, IsStorable, AreEntryCodes, IsNoNext}
use Rattle.live_book.specs.Commits.{has_journal}
use Rattle.book_opening.specs.Opens.{IsHeadTooMuch}
use Rattle.book_opening.specs.Inner.Opens.{AreAtFront, IsReplay}
use Rattle.live_book.specs.Kept.{BookParts}

-- a configuration and a history that were read of bodies, and their version
abbrev pub IsHistoryOf : List (List ℕ) → Replayed → Type 0
IsHistoryOf [] replayed = ⊥
IsHistoryOf (head ∷ texts) replayed =
    (config : ConfigParts) × IsHeadCode head config × IsReplay config texts replayed

-- an act breaks a rule behind a version
abbrev pub BreaksRule : VersionParts → Act → Type 0
BreaksRule version act = (breach : Breach) × (effect (state_of version) act ≡ Err breach)

-- of the bodies behind a configuration, the first that cannot be the next entry
pub record IsWrongTail (config : ConfigParts) (bodies : List Body) (at : ℕ) : Type 0 where
  pub front : List Body
  pub wrong : Body
  pub behind : List Body
  pub entries : List Entry
  pub split : bodies ≡ front ++ wrong ∷ behind
  pub place : at ≡ wrong.at
  pub read : AreEntryCodes (texts_of front) entries
  pub history : IsHistory config entries
  pub no_next : IsNoNext config entries wrong.bytes

-- a book of a history that was read, over this journal
abbrev pub IsOpenedBook : {D : Type 0} → (D → List ℕ → Type 0) → Journal D → Replayed → ℕ → Opened D → Type 0
IsOpenedBook may_leave old replayed readers (stores.Stored book passes) =
    (book.config ≡ replayed.opening) × (book.history ≡ replayed.entries)
    × (book.opened ≡ length replayed.entries) × (book.journal ≡ Some old) × AreAtFront readers book passes
IsOpenedBook may_leave old replayed readers (stores.Bare journal) = ⊥

-- a book of what bodies stand for, over this journal, in which nothing is in doubt
abbrev pub IsOpenedOver : {D : Type 0} → (D → List ℕ → Type 0) → List (List ℕ) → Journal D → ℕ → Opened D → Type 0
IsOpenedOver may_leave texts old readers (stores.Stored book passes) =
    IsStorable book.config book.history × (texts ≡ codes_of book.config book.history)
    × (book.opened ≡ length book.history) × (book.journal ≡ Some old) × AreAtFront readers book passes
IsOpenedOver may_leave texts old readers (stores.Bare journal) = ⊥

-- a journal's fault, as that of a store
abbrev pub fault_of : JournalFault → OpenFault
fault_of journal_faults.Disk = open_faults.Disk
fault_of (journal_faults.Damaged at) = open_faults.Damaged at
fault_of journal_faults.StoreFull = open_faults.StoreFull
fault_of journal_faults.Memory = open_faults.Memory

-- where there is a journal, there is a frame of the configuration's code
abbrev pub IsHeadFrameOf : {D : Type 0} → ConfigParts → Option (Journal D) → Option (List ℕ) → Type 0
IsHeadFrameOf config None frame = Unit {0}
IsHeadFrameOf config (Some journal) frame = frame ≡ Some (head_code config)

-- a gate shows this version alone, under this number, and its passes have seen it
pub record IsFirstShown (version : VersionParts) (count readers : ℕ) (shown : Shown) : Type 0 where
  pub current : arc_value shown.current ≡ record { version = version; last = None }
  pub list : shown.publisher.list ≡ entry count (arc_value shown.current) ∷ []
  pub number : shown.publisher.number ≡ count
  pub passes : All (λ p. p ≡ front shown.publisher.gate shown.publisher.list) shown.passes
  pub some : 0 < length shown.passes
  pub most : length shown.passes ≤ readers

-- what a new book needs is made of a configuration
pub record IsBegun {D : Type 0} (journal : Option (Journal D)) (config : ConfigParts) (readers : ℕ)
    (begun : Begun) : Type 0 where
  pub valid : IsTrue (is_valid config)
  pub frame : IsHeadFrameOf config journal begun.frame
  pub coded : has_journal journal ≡ true → IsHeadCode (head_code config) config
  pub fits : IsHeadTooMuch (has_journal journal) config → ⊥
  pub opening : begun.opening ≡ config
  pub entries : begun.entries ≡ []
  pub shown : IsFirstShown (first_version config) 0 readers begun.shown

-- P is said of the configuration and the readers of a new book
abbrev pub ForBegun : {D : Type 0} → Option (Journal D) → Begun → (ConfigParts → ℕ → Type 0) → Type 0
ForBegun journal begun P = (config : ConfigParts) (readers : ℕ) → IsBegun journal config readers begun → P config readers
