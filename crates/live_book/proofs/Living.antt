-- What a book has become since threads began to edit it, and the answer to one edit more.
use Rattle.std.proofs.Common.{◌≡◌, ℕ, ◌≤◌, List, [], ◌∷◌, ◌++◌, length, take, drop, Option, None, Result, Ok, Err, refl, sym, ◌∙◌, ap, subst, arith, append_assoc, length-append}
use Rattle.std.proofs.lemmas.List.{append-nil}
use mathlib.Core.List.{IsPrefix}
use Rattle.emu_names.specs.Count.{RoseBy}
use Rattle.db_config.specs.declared.parts.ConfigParts.{ConfigParts}
use Rattle.version_steps.specs.edit_rules.declared.acts.Entry.{Entry}
use Rattle.edit_journal.specs.declared.journal.Journal.{Journal}
use Rattle.version_gate.specs.declared.entry.Entry.{Entry as Numbered}
use Rattle.version_gate.specs.Lists.{Numbered as IsNumbered}
use Rattle.version_steps.specs.edit_rules.declared.commit_fault.EditFault.{EditFault}
use Rattle.version_steps.specs.edit_rules.declared.commit_fault.EditFault.TheVariants as edit_faults
use Rattle.live_book.specs.declared.kept.Kept.{Kept}
use Rattle.live_book.specs.declared.published.Published.{Published}
use Rattle.live_book.specs.Published.{AreShown}
use Rattle.live_book.specs.Kept.{BookParts, KeepsIn, faults_in}
use Rattle.live_book.specs.Commits.{IsAnswer, LeavesKept, history_behind, Commits}
use Rattle.live_book.specs.Inner.Inverses.{KeepsInverse, numbered}
use Rattle.live_book.specs.Live.{Opened, HasGrown, Shows, opening_of}
use Rattle.live_book.specs.Inner.Live.{EditsKept, EditsLive, accepted_behind, refused_behind}
use Rattle.live_book.specs.Laws.{BooksShow, OpeningsShow}

-- the new entries behind an answer
abbrev more_behind : List Entry → Entry → Result ℕ EditFault → List Entry
more_behind more next (Ok n) = more ++ next ∷ []
more_behind more next (Err fault) = more

grown : (entries more : List Entry) (next : Entry) (result : Result ℕ EditFault) → history_behind (entries ++ more) next result ≡ entries ++ more_behind more next result
grown entries more next (Ok n) = append_assoc entries more (next ∷ [])
grown entries more next (Err fault) = refl

counted : (more : List Entry) (next : Entry) (result : Result ℕ EditFault) (accepted : ℕ) → length more ≡ accepted → length (more_behind more next result) ≡ accepted_behind accepted result
counted more next (Ok n) accepted is = omega (arith, is, length-append more (next ∷ []))
counted more next (Err fault) accepted is = is

history_grows : (history : List Entry) (next : Entry) (result : Result ℕ EditFault) → length history ≤ length (history_behind history next result)
history_grows history next (Ok n) = omega (arith, length-append history (next ∷ []))
history_grows history next (Err fault) = omega arith

module _ {D : Type 0} (may_leave : D → List ℕ → Type 0) (faults : D → ℕ) where
  -- when threads begin to edit a book, nothing has come
  pub none_yet : (book : BookParts D) → book.opened ≤ length book.history → KeepsIn may_leave book.config book.history None book.journal → HasGrown may_leave faults (opening_of faults book) 0 0 book
  none_yet book low keeps = record {
    config = refl;
    from = refl;
    begun = low;
    stored = refl;
    gate = refl;
    more = [];
    history = sym (append-nil book.history);
    count = refl;
    rose = omega arith;
    in_doubt = λ is. keeps;
  }

  -- the list of such a book shows its history
  pub books_show : BooksShow may_leave faults
  books_show o accepted refused book has shown = record {
    goes_on = (has.more, sym has.history);
    from = has.begun;
    shown =
        subst (λ (n : ℕ). AreShown o.config (take n book.history) (drop n book.history) book.list) has.from
        (subst (λ (c : ConfigParts). AreShown c (take book.opened book.history) (drop book.opened book.history) book.list) has.config shown);
  }

  pub openings_show : OpeningsShow faults
  openings_show book low shown = record { goes_on = ([], append-nil book.history); from = low; shown = shown }

  -- no entry is lost
  pub longer_behind : (moment : D → ℕ) (left_since : D → ℕ → List ℕ → Type 0) (old new : BookParts D) (next : Entry) (result : Result ℕ EditFault) → Commits may_leave moment left_since faults old next result new → length old.history ≤ length new.history
  longer_behind moment left_since old new next result c =
      omega (arith, ap (λ (h : List Entry). length h) c.history, history_grows old.history next result)

  rose_behind : (refused before old new : ℕ) (moment : D → ℕ) (left_since : D → ℕ → List ℕ → Type 0) (one : BookParts D) (next : Entry) (result : Result ℕ EditFault) (other : BookParts D)
      → Commits may_leave moment left_since faults one next result other → old ≡ faults_in faults one.journal → new ≡ faults_in faults other.journal → RoseBy refused before old → RoseBy (refused_behind refused result) before new
  rose_behind refused before old new moment left_since one next (Ok n) other c is to rose = let later = c.later in omega (arith, later, is, to, rose)
  rose_behind refused before old new moment left_since one next (Err (edit_faults.HistoryFull n)) other c is to rose = let later = c.later in omega (arith, later, is, to, rose)
  rose_behind refused before old new moment left_since one next (Err (edit_faults.Broken breach n)) other c is to rose = let later = c.later in omega (arith, later, is, to, rose)
  rose_behind refused before old new moment left_since one next (Err (edit_faults.StoreFull n)) other c is to rose = let later = c.later in omega (arith, later, is, to, rose)
  rose_behind refused before old new moment left_since one next (Err edit_faults.Disk) other c is to rose = let once = c.disk refl in omega (arith, once, is, to, rose)
  rose_behind refused before old new moment left_since one next (Err edit_faults.Memory) other c is to rose = let later = c.later in omega (arith, later, is, to, rose)

  doubt_behind : (config : ConfigParts) (history : List Entry) (next : Entry) (result : Result ℕ EditFault) (journal : Option (Journal D)) (refused : ℕ) → refused_behind refused result ≡ 0
      → LeavesKept may_leave config history None next result journal → KeepsIn may_leave config (history_behind history next result) None journal
  doubt_behind config history next (Ok n) journal refused is leaves = leaves
  doubt_behind config history next (Err (edit_faults.HistoryFull n)) journal refused is leaves = leaves
  doubt_behind config history next (Err (edit_faults.Broken breach n)) journal refused is leaves = leaves
  doubt_behind config history next (Err (edit_faults.StoreFull n)) journal refused is leaves = leaves
  doubt_behind config history next (Err edit_faults.Disk) journal refused is leaves = absurd (omega (arith, is))
  doubt_behind config history next (Err edit_faults.Memory) journal refused is leaves = leaves

  none_refused : (refused : ℕ) (result : Result ℕ EditFault) → refused_behind refused result ≡ 0 → refused ≡ 0
  none_refused refused (Ok n) is = is
  none_refused refused (Err (edit_faults.HistoryFull n)) is = is
  none_refused refused (Err (edit_faults.Broken breach n)) is = is
  none_refused refused (Err (edit_faults.StoreFull n)) is = is
  none_refused refused (Err edit_faults.Disk) is = absurd (omega (arith, is))
  none_refused refused (Err edit_faults.Memory) is = is

  module _ (moment : D → ℕ) (left_since : D → ℕ → List ℕ → Type 0) (o : Opened) (accepted refused : ℕ) (old new : BookParts D) (next : Entry) (result : Result ℕ EditFault)
      (has : HasGrown may_leave faults o accepted refused old) (commits : Commits may_leave moment left_since faults old next result new) where
    history_is : new.history ≡ o.entries ++ more_behind has.more next result
    history_is = commits.history ∙ ap (λ (h : List Entry). history_behind h next result) has.history ∙ grown o.entries has.more next result

    -- a book behind one commit more
    pub grows : HasGrown may_leave faults o (accepted_behind accepted result) (refused_behind refused result) new
    grows = record {
      config = commits.same.config ∙ has.config;
      from = commits.same.opened ∙ has.from;
      begun = has.begun;
      stored = commits.same.stored ∙ has.stored;
      gate = commits.same.gate ∙ has.gate;
      more = more_behind has.more next result;
      history = history_is;
      count = counted has.more next result accepted has.count;
      rose = rose_behind refused o.faults (faults_in faults old.journal) (faults_in faults new.journal) moment left_since old next result new commits refl refl has.rose;
      in_doubt = λ is.
          subst (λ (c : ConfigParts). KeepsIn may_leave c new.history None new.journal) (sym commits.same.config)
          (subst (λ (h : List Entry). KeepsIn may_leave old.config h None new.journal) (sym commits.history)
          (doubt_behind old.config old.history next result new.journal refused is (commits.kept None (has.in_doubt (none_refused refused result is)))));
    }

    -- and the answer
    pub edits_live : (before after : List (Numbered Published)) → ((k : ℕ) → IsNumbered k before → k ≤ length old.history) → IsPrefix before after → after ≡ new.list
        → AreShown new.config (take new.opened new.history) (drop new.opened new.history) new.list → (live : EditsLive o next before after result) × (live.history ≡ old.history)
    edits_live before after seen learnt is shown = (
      record {
        history = old.history;
        right =
            subst (λ (c : ConfigParts). IsAnswer o.stored c old.history next result) has.config
            (subst (λ (s : _). IsAnswer s old.config old.history next result) has.stored commits.right);
        goes_on = (has.more, sym has.history);
        seen = seen;
        learnt = learnt;
        shown = subst (λ (h : List Entry). Shows o h after) commits.history
            (subst (λ (l : List (Numbered Published)). Shows o new.history l) (sym is) (books_show o (accepted_behind accepted result) (refused_behind refused result) new grows shown));
      },
      refl,
    )

-- and what takes the act back, over the entries of that moment
pub edits_kept : (o : Opened) (next : Entry) (before after : List (Numbered Published)) (result : Result Kept EditFault) (config : ConfigParts) (history : List Entry)
    → (live : EditsLive o next before after (numbered result)) × (live.history ≡ history) → config ≡ o.config → KeepsInverse config history next.act result → EditsKept o next before after result
edits_kept o next before after result config history live same keeps = record {
  edits = live.0;
  inverse =
      subst (λ (h : List Entry). KeepsInverse o.config h next.act result) (sym live.1)
      (subst (λ (c : ConfigParts). KeepsInverse c history next.act result) same keeps);
}
