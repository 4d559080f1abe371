-- How a command on the store ends: what its store stood for, what the command made of that, what it wrote, and what a
-- crash may leave of the store then.
use Rattle.std.specs.Prelude.{◌≡◌, ◌⊎◌, ℕ, ◌≤◌, ◌<◌, ◌-◌, ◌^◌, Bool, true, false, List, [], ◌∷◌, ◌++◌, length, map, Option, Some, None, Result, Ok, Err, IsErrOf, codes}
use Rattle.std.specs.Option.{option_map}
use Rattle.std.proofs.Common.{inl, inr}
use Rattle.emu_names.specs.Count.{Rose, RoseBy}
use Rattle.cli_words.specs.declared.words.Words.{Words}
use Rattle.cli_words.specs.declared.words.Words.TheVariants as forms
use Rattle.emu_io.specs.declared.tree.Stored.{Stored}
use Rattle.emu_io.specs.declared.folder.Folder as folders
use Rattle.label_match.specs.declared.maker.PatternMaker as makers
use Rattle.db_config.specs.declared.parts.ConfigParts.{ConfigParts}
use Rattle.version_tree.specs.edit_rules.declared.acts.Act.{Act}
use Rattle.version_tree.specs.edit_rules.declared.acts.Entry.{Entry}
use Rattle.version_tree.specs.edit_rules.Effects.{database_after}
use Rattle.eql_resolve.specs.Made.{Made, IsMade, times_too_large}
use Rattle.emu_disk.specs.Disk.{LeavesOnly}
use Rattle.emu_disk.specs.declared.disk.Disk as disks
use Rattle.edit_journal.specs.declared.journal.Journal.{Journal}
use Rattle.edit_journal.specs.Held.{disk_of, Holds}
use Rattle.script_runs.specs.live_book.Histories.{Stands, IsBare, IsDamagedAt, OfRead}
use Rattle.script_runs.specs.live_book.Kept.{BookParts, KeepsIn, StandsOrLost}
use Rattle.script_runs.specs.book_opening.Opens.{DuringNoBook}
use Rattle.script_runs.specs.session_core.Answers.{answer_at}
use Rattle.emudb_files.specs.store_texts.declared.faults.Refused.{Refused}
use Rattle.emudb_files.specs.store_texts.declared.faults.Refused.TheVariants as refusals
use Rattle.emudb_files.specs.store_texts.declared.faults.CommandFault.{CommandFault}
use Rattle.emudb_files.specs.store_texts.declared.faults.CommandFault.TheVariants as faults
use Rattle.emudb_files.specs.store_texts.Causes.{refused_text}
use Rattle.emudb_files.specs.store_texts.Texts.{damaged_text, done_text, history_text}
use Rattle.emudb_files.specs.store_texts.Commands.{Tells, config_shown, exported, grid_exported}
use Rattle.emudb_files.specs.store_texts.Asked.{asked_text}
use Rattle.emudb_files.specs.Answers.{HasDiskCause, HasReadCause}
use Rattle.emudb_files.specs.Stored.{DuringLoad, Imports, IsMade as IsBookMade, Loads, own_entry}
use Rattle.emudb_files.specs.Wanted.{bundles_wanted, import_wanted}
use Rattle.script_runs.specs.program_output.declared.ending.Ending.{Ending}
use Rattle.script_runs.specs.program_output.declared.ending.Ending.TheVariants.{Fine as Gives, Refused as Refuses, Damaged as IsDamaged, Read as Unread, Disk as NoDisk, Memory as OutOfMemory}
use Rattle.script_runs.specs.Bases.{Base, IsBaseOf, EachOf}

-- a refused command ends with its last line, or memory ran out
abbrev pub IsRefusedBy : Refused → Ending → Type 0
IsRefusedBy refused end = (end ≡ Refuses (refused_text refused)) ⊎ (end ≡ OutOfMemory)

-- the end of a command that made a text, or was stopped
abbrev pub IsEndOf : Result (List ℕ) CommandFault → Ending → Type 0
IsEndOf (Ok text) end = end ≡ Gives text
IsEndOf (Err (faults.Refused refused)) end = IsRefusedBy refused end
IsEndOf (Err faults.Read) end = end ≡ Unread
IsEndOf (Err faults.Disk) end = end ≡ NoDisk
IsEndOf (Err faults.Memory) end = end ≡ OutOfMemory

-- What a folder tells of a command: what it held, and its counts of faults and of misses before it and after it
pub record FolderTold : Type 0 where
  pub content : Option (List Stored)
  pub faults : ℕ
  pub faults_after : ℕ
  pub misses : ℕ
  pub misses_after : ℕ

-- the same, by the folder itself
abbrev pub folder_told : {F : Type 0} → folders.Ghosts F → F → F → FolderTold
folder_told folder before after = record {
  content = folder.content before;
  faults = folder.faults before;
  faults_after = folder.faults after;
  misses = folder.misses before;
  misses_after = folder.misses after;
}

-- how often the maker of patterns had refused a pattern as too large, before a command and after it
pub record Refusals : Type 0 where
  pub before : ℕ
  pub after : ℕ

-- the same, by the maker itself
abbrev pub refusals_told : {P : Type 0} → makers.Ghosts P → P → P → Refusals
refusals_told maker before after = record { before = maker.refusals before; after = maker.refusals after }

-- Reading.

-- a command reads a book
abbrev pub reads_book : Words → Bool
reads_book forms.History = true
reads_book forms.Config = true
reads_book (forms.Export session bundle) = true
reads_book (forms.TextGrid session bundle) = true
reads_book (forms.Ask eql time) = true
reads_book command = false

-- what the state after a history answers to what was made of a query's text, with the name of the level of the times
-- where one is given
abbrev pub answered_after : ConfigParts → List Entry → Option (List ℕ) → Made → Result (List ℕ) Refused
answered_after config history time query =
    asked_text (length history) (answer_at config history (length history) (record { prepared = query; time = time; requery = None }))

-- the answer to a query goes with what the maker of patterns made of its text
pub record IsAsked (refused : Refusals) (eql : List ℕ) (time : Option (List ℕ)) (config : ConfigParts)
    (history : List Entry) (made : Result (List ℕ) CommandFault) : Type 0 where
  pub query : Made
  pub of_text : IsMade eql query
  pub rose : RoseBy (times_too_large query) refused.before refused.after
  pub told : Tells made (answered_after config history time query)

-- memory ran out before that; the maker's refusals did not fall
abbrev pub IsOutOfMemory : Refusals → Result (List ℕ) CommandFault → Type 0
IsOutOfMemory refused made = (made ≡ Err faults.Memory) × (refused.before ≤ refused.after)

-- What a command that reads a book makes of its configuration and its history: the lines of the entries, the
-- configuration of the state after all of them, the annotation or the TextGrid of a bundle of that state, or the answer
-- to a query over it.
abbrev pub IsMadeText : Words → Refusals → ConfigParts → List Entry → Result (List ℕ) CommandFault → Type 0
IsMadeText forms.History refused config history made = Tells made (Ok (history_text history))
IsMadeText forms.Config refused config history made = Tells made (Ok (config_shown (database_after config history)))
IsMadeText (forms.Export session bundle) refused config history made =
    Tells made (exported (database_after config history) session bundle)
IsMadeText (forms.TextGrid session bundle) refused config history made =
    Tells made (grid_exported (database_after config history) session bundle)
IsMadeText (forms.Ask eql time) refused config history made =
    IsOutOfMemory refused made ⊎ IsAsked refused eql time config history made
IsMadeText command refused config history made = ⊥

-- a command on a book ends by what it makes of its configuration and its history
abbrev pub EndsBook : (ConfigParts → List Entry → Result (List ℕ) CommandFault → Type 0) → ConfigParts → List Entry
    → Ending → Type 0
EndsBook Makes config history ending =
    (made : Result (List ℕ) CommandFault) × Makes config history made × IsEndOf made ending

-- no image of a disk is new since a command began
abbrev pub IsUntouched : {D : Type 0} → disks.Ghosts D → D → D → Type 0
IsUntouched disk before now = LeavesOnly disk.moment disk.left_since before now (disk.may_leave before)

-- a command on a store that stands for a configuration and a history ends by what it makes of these, and each image
-- stands for them then
abbrev pub EndsOver : {D : Type 0} → disks.Ghosts D → (ConfigParts → List Entry → Result (List ℕ) CommandFault → Type 0)
    → Ending → D → D → Type 0
EndsOver disk Makes ending before now =
    (config : ConfigParts) × (history : List Entry) × OfRead (disk.reads before) (Stands config history)
    × EachOf (disk.may_leave now) (Stands config history) × EndsBook Makes config history ending

-- a command that wants a configuration ends so on a store without one, and each image is bare then
abbrev pub EndsBare : {D : Type 0} → disks.Ghosts D → Ending → D → D → Type 0
EndsBare disk ending before now =
    OfRead (disk.reads before) IsBare × EachOf (disk.may_leave now) IsBare
    × IsRefusedBy refusals.NoConfiguration ending

-- a command ends so where its store was not opened: it is damaged, at its place; the disk failed; or memory ran out
abbrev pub EndsUnopened : {D : Type 0} → disks.Ghosts D → Ending → D → D → Type 0
EndsUnopened disk (IsDamaged text) before now =
    (at : ℕ) × OfRead (disk.reads before) (λ c. IsDamagedAt c at) × (text ≡ damaged_text at)
EndsUnopened disk NoDisk before now = Rose (disk.faults before) (disk.faults now)
EndsUnopened disk OutOfMemory before now = Unit {0}
EndsUnopened disk ending before now = ⊥

-- a command that reads a store ends so
abbrev pub EndsReading : {D : Type 0} → disks.Ghosts D
    → (ConfigParts → List Entry → Result (List ℕ) CommandFault → Type 0) → Ending → D → D → Type 0
EndsReading disk Makes ending before now =
    EndsOver disk Makes ending before now
    ⊎ (EndsBare disk ending before now ⊎ EndsUnopened disk ending before now)

-- Adding.

-- the end of a command that added bundles, so that the store has so many entries, or was stopped
abbrev pub EndsDone : List ℕ → Result ℕ CommandFault → Ending → Type 0
EndsDone word (Ok n) ending = (ending ≡ Gives (done_text n word)) ⊎ (ending ≡ OutOfMemory)
EndsDone word (Err fault) ending = IsEndOf (Err fault) ending

-- an entry is in doubt only where the disk failed, and it is that of the edit that was committed
abbrev pub IsDoubtOf : Option Act → Result ℕ CommandFault → Option Entry → Type 0
IsDoubtOf act result None = Unit {0}
IsDoubtOf act result (Some entry) =
    IsErrOf result faults.Disk × (own : Act) × (act ≡ Some own) × (entry ≡ own_entry own)

module _ {D : Type 0} (disk : disks.Ghosts D) (content : Option (List Stored))
    (wanted : List Stored → Result Act Refused) (old : BookParts D) (result : Result ℕ CommandFault)
    (new : BookParts D) where
  -- the edit that an `import` committed, if it came to that
  abbrev pub edit_in : Imports disk.may_leave disk.moment disk.left_since disk.faults content wanted old result new
      → Option Act
  edit_in (inl unread) = None
  edit_in (inr committed) = Some committed.act

-- an image stands for a history with the edit that was committed behind it, if one was
abbrev pub StandsWith : ConfigParts → List Entry → Option Act → List ℕ → Type 0
StandsWith config history None c = ⊥
StandsWith config history (Some act) c = Stands config (history ++ own_entry act ∷ []) c

-- what an image may be that a crash at some moment of an `import` leaves: it was possible before; or it stands for what
-- the store stood for; or for that with the edit that was committed
abbrev pub AtImport : (List ℕ → Type 0) → ConfigParts → List Entry → Option Act → List ℕ → Type 0
AtImport before config history act c =
    before c ⊎ (Stands config history c ⊎ StandsWith config history act c)

-- An `import` into a book in which nothing was in doubt, the disk behind it, and what a crash may leave of that
pub record IsImport {D : Type 0} (disk : disks.Ghosts D) (folder : FolderTold)
    (wanted : List Stored → Result Act Refused) (old : BookParts D) (ending : Ending) (before now : D) : Type 0 where
  pub settled : KeepsIn disk.may_leave old.config old.history None old.journal
  pub result : Result ℕ CommandFault
  pub new : BookParts D
  pub imports : Imports disk.may_leave disk.moment disk.left_since disk.faults folder.content wanted old result new
  pub own : Some now ≡ option_map disk_of new.journal
  pub read : HasReadCause folder.faults folder.faults_after folder.misses folder.misses_after result
  pub failed : HasDiskCause (disk.faults before) (disk.faults now) result
  pub end : EndsDone (codes "import") result ending
  pub lost : Option Entry
  pub doubt : IsDoubtOf (edit_in disk folder.content wanted old result new imports) result lost
  pub images : EachOf (disk.may_leave now) (StandsOrLost new.config new.history lost)
  pub moments : EachOf (disk.left_since now (disk.moment before)) (AtImport (disk.may_leave before) old.config
      old.history (edit_in disk folder.content wanted old result new imports))

module _ {D : Type 0} (disk : disks.Ghosts D) (content : Option (List Stored)) (name : List ℕ) (old : Journal D)
    (result : Result ℕ CommandFault) (new : Journal D) (images : List ℕ → Type 0) where
  -- the images behind a configuration that was read: where it was not stored they are bare, or have it alone where the
  -- disk failed; else they stand for it and the entries that were accepted, or also for one more, which is in doubt
  abbrev pub LeavesMade : (config : ConfigParts)
      → IsBookMade disk.may_leave disk.moment disk.left_since disk.faults content (bundles_wanted name) config old
      result new → Type 0
  LeavesMade config (inl not_stored) = EachOf images (DuringNoBook not_stored.fault config)
  LeavesMade config (inr filled) = EachOf images (StandsOrLost config (map own_entry filled.done) filled.lost)

  -- the images behind a `load`: without a configuration that was read they are bare
  abbrev pub LeavesLoaded : Loads disk.may_leave disk.moment disk.left_since disk.faults content name old result new
      → Type 0
  LeavesLoaded (inl not_read) = EachOf images IsBare
  LeavesLoaded (inr read) = LeavesMade read.config read.made

module _ {D : Type 0} (disk : disks.Ghosts D) (content : Option (List Stored)) (name : List ℕ) (old : Journal D)
    (result : Result ℕ CommandFault) (new : Journal D) where
  -- what an image may be that a crash at some moment behind a read configuration leaves: where it was not stored it is
  -- bare, or has it alone where the disk failed; else it is bare, or stands for the configuration and a beginning of the
  -- entries that were accepted, or for all of them and the edit at which the disk failed
  abbrev pub AtMade : (config : ConfigParts)
      → IsBookMade disk.may_leave disk.moment disk.left_since disk.faults content (bundles_wanted name) config old
      result new → List ℕ → Type 0
  AtMade config (inl not_stored) c = DuringNoBook not_stored.fault config c
  AtMade config (inr filled) c = DuringLoad config (map own_entry filled.done) filled.next result c

  -- what an image may be that a crash at some moment of a `load` leaves, beside those that were possible before
  abbrev pub AtLoad : Loads disk.may_leave disk.moment disk.left_since disk.faults content name old result new
      → List ℕ → Type 0
  AtLoad (inl not_read) c = ⊥
  AtLoad (inr read) c = AtMade read.config read.made c

-- A `load` into a journal without a body, the disk behind it, and what a crash may leave of that
pub record IsLoad {D : Type 0} (disk : disks.Ghosts D) (folder : FolderTold) (name : List ℕ) (old : Journal D)
    (ending : Ending) (before now : D) : Type 0 where
  pub empty : Holds disk.may_leave [] None old
  pub result : Result ℕ CommandFault
  pub new : Journal D
  pub loads : Loads disk.may_leave disk.moment disk.left_since disk.faults folder.content name old result new
  pub own : now ≡ disk_of new
  pub read : HasReadCause folder.faults folder.faults_after folder.misses folder.misses_after result
  pub failed : HasDiskCause (disk.faults before) (disk.faults now) result
  pub end : EndsDone (codes "load") result ending
  pub images : LeavesLoaded disk folder.content name old result new (disk.may_leave now) loads
  pub moments : EachOf (disk.left_since now (disk.moment before))
      (λ c. disk.may_leave before c ⊎ AtLoad disk folder.content name old result new loads c)

-- an `import` ends so: the store stood for what its book had, and the bundle was imported into that, or why not; or the
-- store is as before, since it has no configuration or was not opened
abbrev pub EndsImport : {D : Type 0} → disks.Ghosts D → FolderTold → (List Stored → Result Act Refused) → Ending
    → D → D → Type 0
EndsImport {D = D} disk folder wanted ending before now =
    ((old : BookParts D) × OfRead (disk.reads before) (Stands old.config old.history)
    × IsImport disk folder wanted old ending before now)
    ⊎ ((EndsBare disk ending before now ⊎ EndsUnopened disk ending before now) × IsUntouched disk before now)

-- the store has a configuration, each image stands for what it stood for, and a `load` is refused
abbrev pub IsLoadedAlready : {D : Type 0} → disks.Ghosts D → Ending → D → D → Type 0
IsLoadedAlready disk ending before now =
    (config : ConfigParts) × (history : List Entry) × OfRead (disk.reads before) (Stands config history)
    × EachOf (disk.may_leave now) (Stands config history) × IsRefusedBy refusals.StoreHasConfiguration ending

-- a `load` ends so: the store was bare, and the folder was loaded into it, or why not; or the store is as before, since it
-- has a configuration or was not opened
abbrev pub EndsLoad : {D : Type 0} → disks.Ghosts D → FolderTold → List ℕ → Ending → D → D → Type 0
EndsLoad {D = D} disk folder name ending before now =
    ((old : Journal D) × OfRead (disk.reads before) IsBare × IsLoad disk folder name old ending before now)
    ⊎ ((IsLoadedAlready disk ending before now ⊎ EndsUnopened disk ending before now) × IsUntouched disk before now)

-- a command on the store
abbrev pub is_of_store : Words → Bool
is_of_store (forms.Load name) = true
is_of_store (forms.Import session bundle rate file) = true
is_of_store command = reads_book command

-- how a command on the store ends
abbrev pub EndsOnStore : {D : Type 0} → disks.Ghosts D → FolderTold → Refusals → Words → Ending → D → D → Type 0
EndsOnStore disk folder refused (forms.Load name) ending before now = EndsLoad disk folder name ending before now
EndsOnStore disk folder refused (forms.Import session bundle rate file) ending before now =
    EndsImport disk folder (import_wanted session bundle rate file) ending before now
EndsOnStore disk folder refused command ending before now =
    EndsReading disk (IsMadeText command refused) ending before now × IsUntouched disk before now

-- A call of a command on the store whose outside is faultless: the store is bare or stands for a history, and no count
-- of faults rises or stands at its end
pub record IsFaultlessOn {D : Type 0} (disk : disks.Ghosts D) (folder : FolderTold) (sink sink_after : ℕ)
    (before now : D) : Type 0 where
  pub base : Base
  pub begins : IsBaseOf true (disk.reads before) base
  pub bytes : List ℕ
  pub store_known : disk.reads before ≡ Some bytes
  pub reads : folder.faults_after ≡ folder.faults
  pub writes : sink_after ≡ sink
  pub faults : disk.faults now ≡ disk.faults before
  pub reads_room : folder.faults < 2 ^ 64 - 1
  pub writes_room : sink < 2 ^ 64 - 1
  pub faults_room : disk.faults before < 2 ^ 64 - 1
