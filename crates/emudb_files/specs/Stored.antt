-- What `import` and `load` do to a store.
use Rattle.std.specs.Prelude.{◌≡◌, ◌⊎◌, ◌≤◌, ℕ, List, [], ◌∷◌, ◌++◌, length, take, map, true, Option, None, Some, Result, Ok, Err}
use mathlib.Core.List.{IsPrefix}
use Rattle.emu_io.specs.declared.tree.Stored.{Stored}
use Rattle.emu_names.specs.declared.names.BundleKey.{BundleKey}
use Rattle.level_items.specs.declared.annot.Annot.{Annot}
use Rattle.db_config.specs.declared.parts.ConfigParts.{ConfigParts}
use Rattle.store_texts.specs.edit_rules.declared.acts.Act.{Act}
use Rattle.store_texts.specs.edit_rules.declared.acts.Entry.{Entry}
use Rattle.edit_journal.specs.declared.journal.Journal.{Journal}
use Rattle.store_texts.specs.edit_rules.declared.commit_fault.EditFault.{EditFault}
use Rattle.book_opening.specs.declared.fault.OpenFault.{OpenFault}
use Rattle.book_opening.specs.live_book.Histories.{IsBare, Stands}
use Rattle.book_opening.specs.live_book.Kept.{BookParts, CrashLeaves, Keeps}
use Rattle.book_opening.specs.live_book.Commits.{Commits, IsAnswer, IsWelcome, entry_of}
use Rattle.book_opening.specs.Opens.{DuringNoBook, IsNoBookFor}
use Rattle.store_texts.specs.declared.faults.Refused.{Refused}
use Rattle.store_texts.specs.declared.faults.CommandFault.{CommandFault}
use Rattle.store_texts.specs.declared.faults.CommandFault.TheVariants as faults
use Rattle.emudb_files.specs.Answers.{Told, Reads, edit_fault, edit_answer, open_fault}
use Rattle.emudb_files.specs.Wanted.{bundle_added, config_wanted, bundles_wanted}

-- the entry of an act of the program: session 0 and line 0
abbrev pub own_entry : Act → Entry
own_entry act = entry_of (record { 0 = 0 }) 0 act

-- an act adds a bundle
abbrev pub AddsBundle : Act → Type 0
AddsBundle act = (key : BundleKey) × (annot : Annot) × (act ≡ bundle_added key annot)

-- each of these acts adds a bundle
abbrev pub AddBundles : List Act → Type 0
AddBundles [] = Unit {0}
AddBundles (act ∷ acts) = AddsBundle act × AddBundles acts

-- an edit of the program was committed, and the answer is that of the commit
pub record IsAdded {D : Type 0} (may_leave : D → List ℕ → Type 0) (moment : D → ℕ)
    (left_since : D → ℕ → List ℕ → Type 0) (count : D → ℕ) (old : BookParts D) (act : Act)
    (result : Result ℕ CommandFault) (new : BookParts D) : Type 0 where
  pub answer : Result ℕ EditFault
  pub commits : Commits may_leave moment left_since count old (own_entry act) answer new
  pub answered : result ≡ edit_answer answer

-- ---- `import`

-- it was refused before the edit, and the book is as before
pub record IsUnread {D : Type 0} (told : Option (List Stored)) (wanted : List Stored → Result Act Refused)
    (old : BookParts D) (result : Result ℕ CommandFault) (new : BookParts D) : Type 0 where
  pub same : new ≡ old
  pub fault : CommandFault
  pub refused : result ≡ Err fault
  pub reads : Reads told wanted (Err fault)

-- the edit that is wanted, which adds a bundle, was committed
pub record IsCommitted {D : Type 0} (may_leave : D → List ℕ → Type 0) (moment : D → ℕ)
    (left_since : D → ℕ → List ℕ → Type 0) (count : D → ℕ) (told : Option (List Stored))
    (wanted : List Stored → Result Act Refused) (old : BookParts D) (result : Result ℕ CommandFault)
    (new : BookParts D) : Type 0 where
  pub act : Act
  pub is_wanted : Told told (λ content. wanted content ≡ Ok act)
  pub adds : AddsBundle act
  pub added : IsAdded may_leave moment left_since count old act result new

-- what an `import` of a wanted edit does to a book
abbrev pub Imports : {D : Type 0} → (D → List ℕ → Type 0) → (D → ℕ) → (D → ℕ → List ℕ → Type 0) → (D → ℕ)
    → Option (List Stored) → (List Stored → Result Act Refused) → BookParts D → Result ℕ CommandFault → BookParts D
    → Type 0
Imports may_leave moment left_since count told wanted old result new =
    IsUnread told wanted old result new
    ⊎ IsCommitted may_leave moment left_since count told wanted old result new

-- ---- `load`

-- the refusal at which a run ended: what a file or a folder wanted, or why its edit was not accepted after a history
abbrev pub IsRefusedAt : ConfigParts → List Entry → List (Result Act Refused) → Refused → Type 0
IsRefusedAt config history [] refused = ⊥
IsRefusedAt config history (Err wanted ∷ _) refused = wanted ≡ refused
IsRefusedAt config history (Ok act ∷ _) refused =
    (fault : EditFault) × IsAnswer true config history (own_entry act) (Err fault)
    × (edit_fault fault ≡ faults.Refused refused)

-- Why a run ended early after a history, at what it took next, if anything, and what is in doubt then: after a fault of
-- the disk perhaps the entry that was accepted next, and else nothing
abbrev pub IsStop : ConfigParts → List Entry → List (Result Act Refused) → Option Entry → CommandFault → Type 0
IsStop config history next lost (faults.Refused refused) = (lost ≡ None) × IsRefusedAt config history next refused
IsStop config history next lost faults.Read = (lost ≡ None) × (next ≡ [])
IsStop config history next lost faults.Disk =
    (act : Act) × (next ≡ Ok act ∷ []) × IsWelcome true config history (own_entry act)
    × ((lost ≡ None) ⊎ (lost ≡ Some (own_entry act)))
IsStop config history next lost faults.Memory = (lost ≡ None) × (next ≡ [])

-- How a run ended that accepted these edits, in order, each as an entry of the program: at the end of what is wanted, with
-- the number of entries; or before, at what was taken next. All that was accepted or taken is a front of what is wanted
abbrev pub IsEnd : Option (List Stored) → (List Stored → List (Result Act Refused)) → ConfigParts → List Act
    → List (Result Act Refused) → Option Entry → Result ℕ CommandFault → Type 0
IsEnd told wanted config done next lost (Ok n) =
    (n ≡ length done) × (next ≡ []) × (lost ≡ None) × Told told (λ content. wanted content ≡ map Ok done)
IsEnd told wanted config done next lost (Err fault) =
    IsStop config (map own_entry done) next lost fault
    × Told told (λ content. IsPrefix (map Ok done ++ next) (wanted content))

-- What a crash at some moment of a run leaves.

-- an image stands for a configuration and a beginning of a history
pub record IsPart (config : ConfigParts) (history : List Entry) (c : List ℕ) : Type 0 where
  pub count : ℕ
  pub within : count ≤ length history
  pub stands : Stands config (take count history) c

-- or for all of it and the edit that was taken next, where the disk failed at that
abbrev pub IsOneMore : ConfigParts → List Entry → List (Result Act Refused) → CommandFault → List ℕ → Type 0
IsOneMore config history (Ok act ∷ []) faults.Disk c = Stands config (history ++ own_entry act ∷ []) c
IsOneMore config history next fault c = ⊥

-- what an image may be, by how the run ended; before the configuration was stored it is bare
abbrev pub DuringLoad : ConfigParts → List Entry → List (Result Act Refused) → Result ℕ CommandFault → List ℕ → Type 0
DuringLoad config history next (Ok n) c = IsBare c ⊎ IsPart config history c
DuringLoad config history next (Err fault) c =
    IsBare c ⊎ (IsPart config history c ⊎ IsOneMore config history next fault c)

-- a journal is as before, or a crash at any moment since then leaves bytes that have P
abbrev pub LeavesAlong : {D : Type 0} → (D → ℕ) → (D → ℕ → List ℕ → Type 0) → Option (Journal D) → Option (Journal D)
    → (List ℕ → Type 0) → Type 0
LeavesAlong moment left_since old new P = (new ≡ old) ⊎ CrashLeaves moment left_since old new P

-- no configuration was stored, since none was read, and the journal is as before
pub record IsNotRead {D : Type 0} (told : Option (List Stored)) (name : List ℕ) (old : Journal D)
    (result : Result ℕ CommandFault) (new : Journal D) : Type 0 where
  pub same : new ≡ old
  pub fault : CommandFault
  pub refused : result ≡ Err fault
  pub reads : Reads told (config_wanted name) (Err fault)

-- The configuration was not stored, and no book was made of it. The journal is as before, or after a fault of the disk the
-- configuration may be in doubt
pub record IsNotStored {D : Type 0} (may_leave : D → List ℕ → Type 0) (moment : D → ℕ)
    (left_since : D → ℕ → List ℕ → Type 0) (count : D → ℕ) (config : ConfigParts) (old : Journal D)
    (result : Result ℕ CommandFault) (new : Journal D) : Type 0 where
  pub fault : OpenFault
  pub no_book : IsNoBookFor may_leave count config (Some old) fault (Some new)
  pub refused : result ≡ Err (open_fault fault)
  pub moments : CrashLeaves moment left_since (Some old) (Some new) (DuringNoBook fault config)

-- Behind a stored configuration these edits were accepted, in order, each as an entry of the program, and the journal
-- keeps all of that
pub record IsFilled {D : Type 0} (may_leave : D → List ℕ → Type 0) (moment : D → ℕ)
    (left_since : D → ℕ → List ℕ → Type 0) (told : Option (List Stored))
    (wanted : List Stored → List (Result Act Refused)) (config : ConfigParts) (old : Option (Journal D))
    (result : Result ℕ CommandFault) (new : Journal D) : Type 0 where
  pub done : List Act
  pub next : List (Result Act Refused)
  pub lost : Option Entry
  pub add : AddBundles done
  pub keeps : Keeps may_leave config (map own_entry done) lost new
  pub end : IsEnd told wanted config done next lost result
  pub moments : LeavesAlong moment left_since old (Some new) (DuringLoad config (map own_entry done) next result)

-- a configuration was not stored, or it was stored and bundles were added
abbrev pub IsMade : {D : Type 0} → (D → List ℕ → Type 0) → (D → ℕ) → (D → ℕ → List ℕ → Type 0) → (D → ℕ)
    → Option (List Stored) → (List Stored → List (Result Act Refused)) → ConfigParts → Journal D → Result ℕ CommandFault
    → Journal D → Type 0
IsMade may_leave moment left_since count told wanted config old result new =
    IsNotStored may_leave moment left_since count config old result new
    ⊎ IsFilled may_leave moment left_since told wanted config (Some old) result new

-- the configuration was read, and then stored or not
pub record IsRead {D : Type 0} (may_leave : D → List ℕ → Type 0) (moment : D → ℕ)
    (left_since : D → ℕ → List ℕ → Type 0) (count : D → ℕ) (told : Option (List Stored)) (name : List ℕ)
    (old : Journal D) (result : Result ℕ CommandFault) (new : Journal D) : Type 0 where
  pub config : ConfigParts
  pub is_wanted : Told told (λ content. config_wanted name content ≡ Ok config)
  pub made : IsMade may_leave moment left_since count told (bundles_wanted name) config old result new

-- what a `load` does to a store without a configuration
abbrev pub Loads : {D : Type 0} → (D → List ℕ → Type 0) → (D → ℕ) → (D → ℕ → List ℕ → Type 0) → (D → ℕ)
    → Option (List Stored) → List ℕ → Journal D → Result ℕ CommandFault → Journal D → Type 0
Loads may_leave moment left_since count told name old result new =
    IsNotRead told name old result new ⊎ IsRead may_leave moment left_since count told name old result new
