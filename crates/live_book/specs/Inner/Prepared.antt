-- What a commit has ready before it calls the disk.
use Rattle.std.specs.Prelude.{◌≡◌, ℕ, List, [], ◌∷◌, ◌++◌, Bool, true, false, Option, None, Some, Result, Ok, Err}
use Rattle.std.specs.Arc.{arc_value}
use Rattle.db_config.specs.declared.parts.ConfigParts.{ConfigParts}
use Rattle.version_steps.specs.edit_rules.declared.acts.ChangeFault.{ChangeFault}
use Rattle.version_steps.specs.edit_rules.declared.acts.ChangeFault.TheVariants as faults
use Rattle.version_steps.specs.edit_rules.declared.acts.Entry.{Entry}
use Rattle.edit_code.specs.Codes.{entry_code}
use Rattle.edit_journal.specs.declared.journal.Journal.{Journal}
use Rattle.version_gate.specs.Lists.{entry}
use Rattle.live_book.specs.declared.commit.Ready.{Ready}
use Rattle.version_steps.specs.edit_rules.declared.commit_fault.EditFault.{EditFault}
use Rattle.version_steps.specs.edit_rules.declared.commit_fault.EditFault.TheVariants as edit_faults
use Rattle.live_book.specs.Histories.{IsCoded}
use Rattle.live_book.specs.Published.{IsStateAfter}
use Rattle.live_book.specs.Commits.{IsTooMuch, has_journal}
use Rattle.live_book.specs.Kept.{Keeps, KeepsIn, MayFollow}
use Rattle.live_book.specs.Inner.Kept.{Holding}

-- the answer of a test of P
abbrev pub IsTest : Bool → Type 0 → Type 0
IsTest true P = P
IsTest false P = P → ⊥

-- where there is a journal, there is a frame of the entry's code
abbrev pub IsFrameOf : {D : Type 0} → Entry → Option (Journal D) → Option (List ℕ) → Type 0
IsFrameOf entry None frame = Unit {0}
IsFrameOf entry (Some journal) frame = frame ≡ Some (entry_code entry)

-- P is said of each history that a journal holds and that the entry may follow
abbrev pub ForStore : {D : Type 0} → (D → List ℕ → Type 0) → Journal D → Entry
    → (ConfigParts → List Entry → Option Entry → Type 0) → Type 0
ForStore may_leave journal next P =
    (config : ConfigParts) (history : List Entry) (lost : Option Entry)
    → Keeps may_leave config history lost journal → MayFollow config history next → P config history lost

-- an entry may follow a history in the store, where there is one
abbrev pub MayFollowIn : {D : Type 0} → Option (Journal D) → ConfigParts → List Entry → Entry → Type 0
MayFollowIn None config history next = Unit {0}
MayFollowIn (Some journal) config history next = MayFollow config history next

-- the same where there may be no journal
abbrev pub ForStoreIn : {D : Type 0} → (D → List ℕ → Type 0) → Option (Journal D) → Entry
    → (ConfigParts → List Entry → Option Entry → Type 0) → Type 0
ForStoreIn may_leave journal next P =
    (config : ConfigParts) (history : List Entry) (lost : Option Entry)
    → KeepsIn may_leave config history lost journal → MayFollowIn journal config history next
    → P config history lost

-- the journal, if there is one, holds some history with room for the entry
abbrev pub HasRoomFor : {D : Type 0} → (D → List ℕ → Type 0) → Bool → Entry → Option (Journal D) → Type 0
HasRoomFor may_leave stored next journal =
    (config : ConfigParts) × (history : List Entry) × (lost : Option Entry)
    × KeepsIn may_leave config history lost journal × (IsTooMuch stored config history next → ⊥)

-- the journal, if there is one, holds some history
abbrev pub HoldsSome : {D : Type 0} → (D → List ℕ → Type 0) → Option (Journal D) → Type 0
HoldsSome may_leave journal =
    (config : ConfigParts) × (history : List Entry) × Holding may_leave config history journal

-- the refusal of an act after so many entries
abbrev pub refusal_of : ChangeFault → ℕ → EditFault
refusal_of (faults.Broken breach) number = edit_faults.Broken breach number
refusal_of faults.Memory number = edit_faults.Memory

-- what a commit has ready is that of an entry after a history
pub record IsReady {D : Type 0} (journal : Option (Journal D)) (own : ConfigParts) (history : List Entry)
    (ready : Ready) : Type 0 where
  pub frame : IsFrameOf ready.entry journal ready.frame
  pub coded : has_journal journal ≡ true → IsCoded ready.entry
  pub version : IsStateAfter own (history ++ ready.entry ∷ []) (arc_value ready.next).version
  pub last : (arc_value ready.next).last ≡ Some ready.entry
  pub same : arc_value ready.kept ≡ arc_value ready.next

-- the entries behind a try to add one
abbrev pub entries_behind : {T : Type 0} → List Entry → Entry → Result T EditFault → List Entry
entries_behind entries next (Ok v) = entries ++ next ∷ []
entries_behind entries next (Err fault) = entries
