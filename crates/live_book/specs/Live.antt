-- Edits of several threads in one book. A type names the book's opening, and shares count what each thread was
-- answered.
use Rattle.std.specs.Prelude.{◌≡◌, ℕ, ◌+◌, ◌-◌, ◌≤◌, List, ◌++◌, length, take, drop, Bool, None}
use mathlib.Core.List.{IsPrefix}
use Rattle.emu_names.specs.Count.{RoseBy}
use Rattle.db_config.specs.declared.parts.ConfigParts.{ConfigParts}
use Rattle.version_steps.specs.edit_rules.declared.acts.Entry.{Entry}
use Rattle.logbook.specs.Pages.{Book as GateName}
use Rattle.version_gate.specs.declared.entry.Entry.{Entry as Numbered}
use Rattle.live_book.specs.declared.published.Published.{Published}
use Rattle.live_book.specs.Published.{AreShown}
use Rattle.live_book.specs.Kept.{BookParts, KeepsIn, faults_in}
use Rattle.live_book.specs.Commits.{has_journal}

-- What is named of a book at the moment at which threads begin to edit it: its configuration, its entries and how
-- many of them stood when it was made, whether there is a journal, the disk's count of faults, and its gate
pub record Opened : Type 0 where
  pub config : ConfigParts
  pub entries : List Entry
  pub from : ℕ
  pub stored : Bool
  pub faults : ℕ
  pub gate : GateName

-- a book as it is, as an opening
abbrev pub opening_of : {D : Type 0} → (D → ℕ) → BookParts D → Opened
opening_of faults book = record {
  config = book.config;
  entries = book.history;
  from = book.opened;
  stored = has_journal book.journal;
  faults = faults_in faults book.journal;
  gate = book.gate;
}

-- A published list shows the states after the entries of this history, which goes on from the opening's: no more of
-- them and no fewer
pub record Shows (o : Opened) (history : List Entry) (list : List (Numbered Published)) : Type 0 where
  pub goes_on : IsPrefix o.entries history
  pub from : o.from ≤ length o.entries
  pub shown : AreShown o.config (take o.from history) (drop o.from history) list

-- A book since its opening: so many edits were accepted, and so many were answered that the disk failed. As many entries
-- came as edits were accepted, the disk's count rose once or more for each answer that it failed, and where there is no
-- such answer, nothing in the journal is in doubt
pub record HasGrown {D : Type 0} (may_leave : D → List ℕ → Type 0) (faults : D → ℕ) (o : Opened)
    (accepted refused : ℕ) (book : BookParts D) : Type 0 where
  pub config : book.config ≡ o.config
  pub from : book.opened ≡ o.from
  pub begun : o.from ≤ length o.entries
  pub stored : has_journal book.journal ≡ o.stored
  pub gate : book.gate ≡ o.gate
  pub more : List Entry
  pub history : book.history ≡ o.entries ++ more
  pub count : length more ≡ accepted
  pub rose : RoseBy refused o.faults (faults_in faults book.journal)
  pub in_doubt : refused ≡ 0 → KeepsIn may_leave book.config book.history None book.journal
