-- What opening a store owes.
use Rattle.std.proofs.Common.{◌≡◌, inl, inr, ℕ, List, [], ◌∷◌, length, Option, None, Some, Ok, Err, refl, sym, ◌∙◌, ap, subst, arith}
use Rattle.std.specs.Arc.{arc_value}
use Rattle.emu_names.specs.Count.{Rose}
use Rattle.db_config.specs.declared.parts.ConfigParts.{ConfigParts}
use Rattle.version_tree.specs.edit_rules.declared.acts.Entry.{Entry}
use Rattle.live_book.specs.edit_code.Codes.{IsHeadCode}
use Rattle.edit_journal.specs.declared.body.Body.{Body}
use Rattle.edit_journal.specs.declared.fault.JournalFault.{JournalFault}
use Rattle.edit_journal.specs.declared.fault.JournalFault.TheVariants as journal_faults
use Rattle.edit_journal.specs.declared.journal.Journal.{Journal}
use Rattle.edit_journal.specs.Store.{bodies, placed, StandsFor}
use Rattle.edit_journal.specs.Held.{texts_of, Holds}
use Rattle.edit_journal.specs.Inner.Held.{Reads}
use Rattle.version_gate.specs.Lists.{Front, entry}
use Rattle.book_opening.specs.declared.fault.OpenFault.{OpenFault}
use Rattle.book_opening.specs.declared.fault.OpenFault.TheVariants.{Disk, Damaged, StoreFull, Memory}
use Rattle.live_book.specs.declared.published.Published.{Published}
use Rattle.book_opening.specs.declared.making.Shown.{Shown}
use Rattle.book_opening.specs.declared.opening.Opened.{Opened}
use Rattle.book_opening.specs.declared.opening.Opened.TheVariants as stores
use Rattle.book_opening.specs.declared.replay.Replayed.{Replayed}
use Rattle.live_book.specs.Histories.{codes_of, IsDamagedAt, IsStorable}
use Rattle.live_book.specs.Kept.{BookParts, Keeps, KeepsIn}
use Rattle.live_book.specs.Inner.Kept.{IsBookOf}
use Rattle.live_book.specs.Commits.{has_journal}
use Rattle.book_opening.specs.Inner.Opens.{IsNoStoreFor, IsOpenedAs, IsReplay, IsWrong, IsWrongIn, journal_in}
use Rattle.book_opening.specs.Inner.Prepared.{fault_of, IsFirstShown, IsHistoryOf, IsOpenedBook, IsOpenedOver}
use Rattle.book_opening.proofs.Readings.{replay_storable, replay_codes}
use Rattle.book_opening.proofs.FirstBooks.{first_book}

module _ {D : Type 0} (may_leave : D → List ℕ → Type 0) where
  pub opened_keeps : (config : ConfigParts) (history : List Entry) (texts : List (List ℕ)) (journal : Journal D) → IsStorable config history → texts ≡ codes_of config history → Holds may_leave texts None journal → Keeps may_leave config history None journal
  opened_keeps config history texts journal storable is holds = record { storable = storable; lost_fits = tt; held = subst (λ (t : List (List ℕ)). Holds may_leave t None journal) is holds }

  -- Opening a store.

  pub opened_over : (head : List ℕ) (texts : List (List ℕ)) (old : Journal D) (replayed : Replayed) (readers : ℕ) (config : ConfigParts) → IsHeadCode head config → IsReplay config texts replayed → (opened : Opened D)
      → IsOpenedBook may_leave old replayed readers opened → IsOpenedOver may_leave (head ∷ texts) old readers opened
  opened_over head texts old replayed readers config code is (stores.Bare journal) opened = absurd opened
  opened_over head texts old replayed readers config code is (stores.Stored book passes) opened =
      let own : config ≡ book.config = sym (opened.0 ∙ is.opening) in
      let all : replayed.entries ≡ book.history = sym opened.1 in
      let storable : IsStorable book.config book.history =
      subst (IsStorable book.config) all (subst (λ (c : ConfigParts). IsStorable c replayed.entries) own (replay_storable config texts replayed is head code)) in
      let codes : head ∷ texts ≡ codes_of book.config book.history =
      replay_codes config texts replayed is head code ∙ ap (λ (c : ConfigParts). codes_of c replayed.entries) own ∙ ap (codes_of book.config) all in
      (storable, codes, opened.2 ∙ ap length all, opened.3, opened.4)

  pub opened_as : (reads : Option (List ℕ)) (found : List Body) (old : Journal D) (readers : ℕ) → Reads reads (Ok found) → found ≡ placed 8 (texts_of found) → Holds may_leave (texts_of found) None old → (opened : Opened D)
      → IsOpenedOver may_leave (texts_of found) old readers opened → IsOpenedAs may_leave reads readers opened
  opened_as reads found old readers read places holds (stores.Bare journal) opened = absurd opened
  opened_as reads found old readers read places holds (stores.Stored book passes) opened =
      let stands : StandsFor (codes_of book.config book.history) read.0 = subst (λ (t : List (List ℕ)). StandsFor t read.0) opened.1 (read.2 ∙ ap Ok places) in
      let kept : KeepsIn may_leave book.config book.history None book.journal =
      subst (KeepsIn may_leave book.config book.history None) (sym opened.3) (opened_keeps book.config book.history (texts_of found) old opened.0 opened.1 holds) in
      ((read.0, read.1, record { storable = opened.0; stands = stands }), opened.2, kept, ap has_journal opened.3, opened.4)

-- damage among the bodies
pub wrong_at : (c : List ℕ) (found : List Body) (at : ℕ) → bodies c ≡ Ok found → IsWrongIn found at → IsDamagedAt c at
wrong_at c found at read w = inr (record { front = w.front; wrong = w.wrong; behind = w.behind; read = read ∙ ap Ok w.split; place = w.place; is_wrong = w.is_wrong })

module _ {D : Type 0} (may_leave : D → List ℕ → Type 0) where
  -- the first book of a history that was read
  pub history_book : (texts : List (List ℕ)) (replayed : Replayed) (journal : Journal D) (count opened readers : ℕ) (shown : Shown) → IsHistoryOf texts replayed → Holds may_leave texts None journal → IsFirstShown replayed.version count readers shown → count ≡ length replayed.entries → opened ≡ length replayed.entries
      → IsBookOf may_leave replayed.opening (arc_value shown.current) replayed.entries opened opened shown.publisher (Some journal)
  history_book [] replayed journal count opened readers shown history holds first counted all = absurd history
  history_book (head ∷ texts) replayed journal count opened readers shown history holds first counted all =
      let config = history.0 in
      let code = history.1 in
      let is = history.2 in
      let kept : Keeps may_leave config replayed.entries None journal =
      opened_keeps may_leave config replayed.entries (head ∷ texts) journal (replay_storable config texts replayed is head code) (replay_codes config texts replayed is head code) holds in
      subst (λ (own : ConfigParts). IsBookOf may_leave own (arc_value shown.current) replayed.entries opened opened shown.publisher (Some journal)) (sym is.opening)
      (first_book may_leave config replayed.version (arc_value shown.current) replayed.entries opened opened shown.publisher (Some journal) is.valid is.few is.state first.current all all (first.number ∙ counted)
      (first.list ∙ ap (λ (n : ℕ). entry n (arc_value shown.current) ∷ []) counted) (None, kept))

  pub opened_book : (replayed : Replayed) (journal : Journal D) (count opened readers : ℕ) (shown : Shown) (book : BookParts D) → book ≡ record { config = replayed.opening; history = replayed.entries; opened = opened; journal = Some journal; gate = shown.publisher.gate; list = shown.publisher.list }
      → IsFirstShown replayed.version count readers shown → opened ≡ length replayed.entries → IsOpenedBook may_leave journal replayed readers (stores.Stored book shown.passes)
  opened_book replayed journal count opened readers shown book is first all =
      subst (λ (b : BookParts D). IsOpenedBook may_leave journal replayed readers (stores.Stored b shown.passes)) (sym is)
      (refl, refl, all, refl, record { each = first.passes; some = first.some; most = first.most })

  pub opened_from : (texts : List (List ℕ)) (old : Journal D) (replayed : Replayed) (readers : ℕ) → IsHistoryOf texts replayed → (opened : Opened D)
      → IsOpenedBook may_leave old replayed readers opened → IsOpenedOver may_leave texts old readers opened
  opened_from [] old replayed readers history opened is = absurd history
  opened_from (head ∷ texts) old replayed readers history opened is = opened_over may_leave head texts old replayed readers history.0 history.1 history.2 opened is

  -- a bare store
  pub bare_as : (reads : Option (List ℕ)) (found : List Body) (journal : Journal D) (readers : ℕ) → Reads reads (Ok found) → length found ≡ 0 → Holds may_leave (texts_of found) None journal → IsOpenedAs may_leave reads readers (stores.Bare journal)
  bare_as reads [] journal readers read none holds = (read, holds)
  bare_as reads (b ∷ found) journal readers read none holds = absurd (omega (arith, none))

  -- the journal of an opened store is the one that was recovered
  pub same_journal : (P : Option (Journal D) → Type 0) (texts : List (List ℕ)) (old : Journal D) (readers : ℕ) (opened : Opened D) → IsOpenedOver may_leave texts old readers opened → P (Some old) → P (journal_in opened)
  same_journal P texts old readers (stores.Bare journal) is has = absurd is
  same_journal P texts old readers (stores.Stored book passes) is has = subst P (sym is.3) has

-- why a journal was not recovered
pub refused_as : {D : Type 0} (reads : Option (List ℕ)) (faults : D → ℕ) (old new : D) (fault : JournalFault) → ((at : ℕ) → fault ≡ journal_faults.Damaged at → Reads reads (Err at)) → (fault ≡ journal_faults.Disk → Rose (faults old) (faults new)) → (fault ≡ journal_faults.StoreFull → ⊥)
    → IsNoStoreFor reads faults old (fault_of fault) new
refused_as reads faults old new journal_faults.Disk damaged disk full = disk refl
refused_as reads faults old new (journal_faults.Damaged at) damaged disk full = let read = damaged at refl in (read.0, read.1, inl read.2)
refused_as reads faults old new journal_faults.StoreFull damaged disk full = absurd (full refl)
refused_as reads faults old new journal_faults.Memory damaged disk full = tt

-- why the bodies stand for no history
pub wrong_as : {D : Type 0} (reads : Option (List ℕ)) (faults : D → ℕ) (old new : D) (found : List Body) (fault : OpenFault) → Reads reads (Ok found) → IsWrong (IsWrongIn found) fault → IsNoStoreFor reads faults old fault new
wrong_as reads faults old new found Disk read wrong = absurd wrong
wrong_as reads faults old new found (Damaged at) read wrong = (read.0, read.1, wrong_at read.0 found at read.2 wrong)
wrong_as reads faults old new found StoreFull read wrong = absurd wrong
wrong_as reads faults old new found Memory read wrong = tt
