-- Laws of published lists and of the histories that they show.
use Rattle.std.specs.Prelude.{◌≡◌, ℕ, ◌≤◌, List, length, take, drop}
use mathlib.Core.List.{IsPrefix}
use Rattle.version_steps.specs.edit_rules.declared.acts.Entry.{Entry}
use Rattle.version_gate.specs.declared.entry.Entry.{Entry as Numbered}
use Rattle.version_gate.specs.Lists.{entry, EndsIn, Numbered as IsNumbered}
use Rattle.live_book.specs.declared.published.Published.{Published}
use Rattle.live_book.specs.Published.{AreShown, IsStateAfter}
use Rattle.live_book.specs.Kept.{BookParts}
use Rattle.live_book.specs.Live.{HasGrown, Opened, Shows, opening_of}

-- the history that a list shows begins that of each longer list
abbrev pub HistoriesBegin : Type 0
HistoriesBegin = (o : Opened) (H more : List Entry) (list longer : List (Numbered Published)) → Shows o H list
    → Shows o more longer → IsPrefix list longer → IsPrefix H more

-- the last version of a list is that after the whole history that the list shows
abbrev pub ListsEnd : Type 0
ListsEnd = (o : Opened) (H : List Entry) (list : List (Numbered Published)) (n : ℕ) (version : Published)
    → Shows o H list → EndsIn list (entry n version) → (n ≡ length H) × IsStateAfter o.config H version.version

-- a list shows a beginning of a history, of so many entries
pub record ShowsBeginning (o : Opened) (H : List Entry) (list : List (Numbered Published)) (k : ℕ) : Type 0 where
  pub beginning : List Entry
  pub begins : IsPrefix beginning H
  pub shown : Shows o beginning list
  pub long : length beginning ≡ k

-- the beginning of a list, up to a number that is not below the opening's, shows the beginning of so many entries
abbrev pub ListsBegin : Type 0
ListsBegin = (o : Opened) (H : List Entry) (list longer : List (Numbered Published)) (k : ℕ) → Shows o H longer
    → IsPrefix list longer → IsNumbered k list → length o.entries ≤ k → ShowsBeginning o H list k

-- the last number of a list is the number of entries that it shows
abbrev pub ListsAreNumbered : Type 0
ListsAreNumbered = (o : Opened) (H : List Entry) (list : List (Numbered Published)) → Shows o H list
    → IsNumbered (length H) list

-- the published list of a book shows its history, beside the opening that it has grown from
abbrev pub BooksShow : {D : Type 0} → (D → List ℕ → Type 0) → (D → ℕ) → Type 0
BooksShow {D = D} may_leave faults = (o : Opened) (accepted refused : ℕ) (book : BookParts D)
    → HasGrown may_leave faults o accepted refused book
    → AreShown book.config (take book.opened book.history) (drop book.opened book.history) book.list
    → Shows o book.history book.list

-- the published list of a book shows its history, beside the book itself as the opening
abbrev pub OpeningsShow : {D : Type 0} → (D → ℕ) → Type 0
OpeningsShow {D = D} faults = (book : BookParts D) → book.opened ≤ length book.history
    → AreShown book.config (take book.opened book.history) (drop book.opened book.history) book.list
    → Shows (opening_of faults book) book.history book.list
