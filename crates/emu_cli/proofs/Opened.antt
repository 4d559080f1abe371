-- A command whose store was opened, or not.
use Rattle.std.proofs.Common.{◌≡◌, ℕ, ◌≤◌, true, List, [], Option, Some, None, refl, sym, subst}
use Rattle.std.specs.Option.{option_map}
use Rattle.cli_words.specs.declared.words.Words.{Words}
use Rattle.cli_words.specs.declared.words.Words.TheVariants as forms
use Rattle.emu_disk.specs.Disk.{LeavesOnly}
use Rattle.edit_journal.specs.declared.journal.Journal.{Journal}
use Rattle.edit_journal.specs.Held.{disk_of, Holds}
use Rattle.version_gate.specs.Lists.{Front}
use Rattle.script_runs.specs.live_book.declared.published.Published.{Published}
use Rattle.script_runs.specs.live_book.Histories.{OfRead, IsBare, Stands}
use Rattle.script_runs.specs.live_book.Kept.{BookParts, KeepsIn, faults_in}
use Rattle.script_runs.specs.live_book.Commits.{has_journal}
use Rattle.script_runs.specs.book_opening.declared.opening.Opened.{Opened}
use Rattle.script_runs.specs.book_opening.declared.opening.Opened.TheVariants as stores
use Rattle.script_runs.specs.book_opening.Inner.Opens.{IsOpenedAs, LeavesFrom, journal_in}
use Rattle.script_runs.specs.program_output.declared.ending.Ending.{Ending}
use Rattle.emu_disk.specs.declared.disk.Disk as disks
use Rattle.emu_cli.specs.Ends.{EndsLoad, EndsOnStore, EndsReading, FolderTold, IsMadeText, IsUntouched, Refusals}

abbrev some_disk : {D : Type 0} → D → Option D
some_disk d = Some d

some_disk_same : {D : Type 0} {x y : D} → some_disk x ≡ some_disk y → x ≡ y
some_disk_same e = cc

-- the book of a store with a configuration
pub record HasBook {D : Type 0} (may_leave : D → List ℕ → Type 0) (reads : Option (List ℕ)) (b : BookParts D) : Type 0 where
  pub begins : OfRead reads (Stands b.config b.history)
  pub keeps : KeepsIn may_leave b.config b.history None b.journal
  pub stored : has_journal b.journal ≡ true

module _ {D : Type 0} (may_leave : D → List ℕ → Type 0) (reads : Option (List ℕ)) where
  pub some_opened : (opened : Opened D) (b : BookParts D) (passes : List (Front Published)) → opened ≡ stores.Stored b passes → IsOpenedAs may_leave reads 1 opened → HasBook may_leave reads b
  some_opened opened b passes e h = let o = subst (λ x. IsOpenedAs may_leave reads 1 x) e h in record { begins = o.0; keeps = o.2; stored = o.3 }

  -- the journal of a bare store
  pub none_opened : (opened : Opened D) (j : Journal D) → opened ≡ stores.Bare j → IsOpenedAs may_leave reads 1 opened → OfRead reads IsBare × Holds may_leave [] None j
  none_opened opened j e h = subst (λ x. IsOpenedAs may_leave reads 1 x) e h

-- The disk of a store that was opened.

module _ {D : Type 0} (moment : D → ℕ) (left_since : D → ℕ → List ℕ → Type 0) (P : List ℕ → Type 0) (before after : D) where
  own_moved : (journal : Option (Journal D)) → Some after ≡ option_map disk_of journal → LeavesFrom moment left_since before journal P → LeavesOnly moment left_since before after P
  own_moved (Some j) e h = subst (λ d. LeavesOnly moment left_since before d P) (sym (some_disk_same e)) h
  own_moved None e h = absurd (cc)

  pub some_untouched : (opened : Opened D) (b : BookParts D) (passes : List (Front Published)) → opened ≡ stores.Stored b passes → Some after ≡ option_map disk_of b.journal → LeavesFrom moment left_since before (journal_in opened) P → LeavesOnly moment left_since before after P
  some_untouched opened b passes e k h = own_moved b.journal k (subst (λ x. LeavesFrom moment left_since before (journal_in x) P) e h)

  pub none_untouched : (opened : Opened D) (j : Journal D) → opened ≡ stores.Bare j → after ≡ disk_of j → LeavesFrom moment left_since before (journal_in opened) P → LeavesOnly moment left_since before after P
  none_untouched opened j e same h = subst (λ d. LeavesOnly moment left_since before d P) (sym same) (subst (λ x. LeavesFrom moment left_since before (journal_in x) P) e h)

-- what a crash left since the store was opened, by the journal of its book
pub some_leaves : {D : Type 0} (moment : D → ℕ) (left_since : D → ℕ → List ℕ → Type 0) (P : List ℕ → Type 0) (begin : D) (opened : Opened D) (b : BookParts D) (passes : List (Front Published)) → opened ≡ stores.Stored b passes → LeavesFrom moment left_since begin (journal_in opened) P → LeavesFrom moment left_since begin b.journal P
some_leaves moment left_since P begin opened b passes e h = subst (λ x. LeavesFrom moment left_since begin (journal_in x) P) e h

-- and by the journal of a bare store
pub none_leaves : {D : Type 0} (moment : D → ℕ) (left_since : D → ℕ → List ℕ → Type 0) (P : List ℕ → Type 0) (begin : D) (opened : Opened D) (j : Journal D) → opened ≡ stores.Bare j → LeavesFrom moment left_since begin (journal_in opened) P → LeavesFrom moment left_since begin (Some j) P
none_leaves moment left_since P begin opened j e h = subst (λ x. LeavesFrom moment left_since begin (journal_in x) P) e h

-- the count of a journal's disk, since the store was opened
pub some_later : {D : Type 0} (faults : D → ℕ) (opened : Opened D) (b : BookParts D) (passes : List (Front Published)) (begin : ℕ) → opened ≡ stores.Stored b passes → begin ≤ faults_in faults (journal_in opened) → begin ≤ faults_in faults b.journal
some_later faults opened b passes begin e h = subst (λ x. begin ≤ faults_in faults (journal_in x)) e h

pub none_later : {D : Type 0} (faults : D → ℕ) (opened : Opened D) (j : Journal D) (begin : ℕ) → opened ≡ stores.Bare j → begin ≤ faults_in faults (journal_in opened) → begin ≤ faults (disk_of j)
none_later faults opened j begin e h = subst (λ x. begin ≤ faults_in faults (journal_in x)) e h

-- Commands by their kind.

module _ {D : Type 0} (disk : disks.Ghosts D) (folder : FolderTold) (refused : Refusals) (ending : Ending) (before now : D) where
  abbrev Reads : Words → Type 0
  Reads command = EndsReading disk (IsMadeText command refused) ending before now × IsUntouched disk before now

  abbrev Ends : Words → Type 0
  Ends command = EndsOnStore disk folder refused command ending before now

  pub reads_end : (command : Words) → ((name : List ℕ) → command ≡ forms.Load name → ⊥) → ((session bundle : List ℕ) (rate : ℕ) (file : List ℕ) → command ≡ forms.Import session bundle rate file → ⊥) → Reads command → Ends command
  reads_end (forms.Load name) load imports h = absurd (load name refl)
  reads_end (forms.Import session bundle rate file) load imports h = absurd (imports session bundle rate file refl)
  reads_end (forms.Run store) load imports h = h
  reads_end (forms.Live store workers) load imports h = h
  reads_end (forms.Ask eql time) load imports h = h
  reads_end (forms.Export session bundle) load imports h = h
  reads_end (forms.TextGrid session bundle) load imports h = h
  reads_end forms.History load imports h = h
  reads_end forms.Config load imports h = h
  reads_end (forms.Work number bundles) load imports h = h

  pub load_ends : (command : Words) (name : List ℕ) → command ≡ forms.Load name → EndsLoad disk folder name ending before now → Ends command
  load_ends command name is h = subst (λ w. Ends w) (sym is) h
