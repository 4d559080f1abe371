-- What the list of a pass shows.
use Rattle.std.proofs.Common.{◌≡◌, ℕ, ◌≤◌, List, length}
use mathlib.Core.List.{IsPrefix}
use Rattle.edit_undo.specs.edit_rules.declared.acts.Entry.{Entry}
use Rattle.version_gate.specs.declared.entry.Entry.{Entry as Numbered}
use Rattle.version_gate.specs.Lists.{EndsIn, Numbered as IsNumbered, entry}
use Rattle.version_gate.proofs.Numbers.{numbered_once}
use Rattle.live_book.specs.declared.published.Published.{Published}
use Rattle.live_book.specs.Laws.{ShowsBeginning}
use Rattle.live_book.specs.Live.{Opened, Shows}
use Rattle.live_book.specs.Published.{IsStateAfter}
use Rattle.live_book.proofs.Lists.{histories_begin, lists_are_numbered, lists_begin, lists_end}

-- a longer list shows a history that goes on
pub goes_on : (o : Opened) (before history : List Entry) (old new : List (Numbered Published)) → Shows o before old → Shows o history new → IsPrefix old new → IsPrefix before history
goes_on o before history old new p q begins = histories_begin o before history old new p q begins

-- the last version is that after the whole history, under its number
pub last_is : (o : Opened) (history : List Entry) (list : List (Numbered Published)) (n : ℕ) (shown : Published) → Shows o history list → EndsIn list (entry n shown) → (n ≡ length history) × IsStateAfter o.config history shown.version
last_is o history list n shown p ends = lists_end o history list n shown p ends

-- a list with a number shows a history of that length
pub number_is : (o : Opened) (history : List Entry) (list : List (Numbered Published)) (k : ℕ) → Shows o history list → IsNumbered k list → k ≡ length history
number_is o history list k p here = numbered_once k (length history) list here (lists_are_numbered o history list p)

-- a beginning of a list, past the opening, shows a beginning of the history
pub shows_before : (o : Opened) (history : List Entry) (old new : List (Numbered Published)) (k : ℕ) → Shows o history new → IsPrefix old new → IsNumbered k old → length o.entries ≤ k → (before : List Entry) × Shows o before old
shows_before o history old new k p begins here past =
    let was : ShowsBeginning o history old k = lists_begin o history old new k p begins here past in
    (was.beginning, was.shown)
