-- A draft that was made before a commit asks for the book.
use Rattle.std.specs.Prelude.{ℕ, List, Option, None, Result, nat_le, if◌then◌else◌}
use mathlib.Core.List.{IsPrefix}
use Rattle.emu_names.specs.declared.rules.Fault.{Fault}
use Rattle.version_steps.specs.edit_rules.declared.acts.Entry.{Entry}
use Rattle.version_gate.specs.declared.entry.Entry.{Entry as Numbered}
use Rattle.version_gate.specs.Lists.{EndsIn, entry}
use Rattle.version_steps.specs.bundle_index.Index.{IndexParts}
use Rattle.version_steps.specs.version_tree.Version.{VersionParts}
use Rattle.version_steps.specs.declared.draft.Draft.{Draft}
use Rattle.version_steps.specs.Inner.Drafts.{IsDraftOf}
use Rattle.live_book.specs.declared.published.Published.{Published}
use Rattle.live_book.specs.Published.{IsStateAfter}
use Rattle.live_book.specs.Kept.{BookParts}

-- a draft is that of an entry, over the last version of a list
pub record IsDraftAt (list : List (Numbered Published)) (next : Entry) (draft : Draft) : Type 0 where
  pub number : ℕ
  pub shown : Published
  pub last : EndsIn list (entry number shown)
  pub is_draft : IsDraftOf shown.version next draft

-- a draft is that of an entry, over the version after a beginning of a book's history
pub record IsDraftIn {D : Type 0} (book : BookParts D) (next : Entry) (draft : Draft) : Type 0 where
  pub beginning : List Entry
  pub begins : IsPrefix beginning book.history
  pub version : VersionParts
  pub state : IsStateAfter book.config beginning version
  pub is_draft : IsDraftOf version next draft

-- what was made over a version of this number, where the configuration has been the present one since
abbrev pub serving : ℕ → ℕ → Option (Result IndexParts Fault) → Option (Result IndexParts Fault)
serving since number added = if nat_le since number then added else None
