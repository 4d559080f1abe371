-- What is known when the lanes of a run have ended and their book is settled.
use Rattle.std.proofs.Common.{◌≡◌, ℕ, ◌-◌, ◌≤◌, List, length, take, drop, sym, ap, subst, arith}
use Rattle.edit_rules.specs.declared.acts.Entry.{Entry}
use Rattle.live_seats.specs.session_core.declared.line.Line.{Line}
use Rattle.live_seats.specs.live_book.Kept.{BookParts}
use Rattle.live_seats.specs.live_book.Live.{HasGrown, Opened, Shows}
use Rattle.live_seats.specs.live_book.Published.{AreShown}
use Rattle.live_seats.proofs.of_live_book.Living.{books_show}
use Rattle.live_seats.specs.live_laws.Lanes.{Step}
use Rattle.live_run.specs.Inner.Running.{HaveLanes, accepts_in, refuses_in}

-- the published list of a book shows its history
abbrev pub ShowsAll : {D : Type 0} → BookParts D → Type 0
ShowsAll book = AreShown book.config (take book.opened book.history) (drop book.opened book.history) book.list

module _ {D : Type 0} (may_leave : D → List ℕ → Type 0) (faults : D → ℕ) (o : Opened) (book : BookParts D) (rests ran : List (List Step)) (steps : ran ≡ rests)
    (grown : HasGrown may_leave faults o (accepts_in rests) (refuses_in rests) book) where
  pub gathers_grown : HasGrown may_leave faults o (accepts_in ran) (refuses_in ran) book
  gathers_grown = subst (λ (l : List (List Step)). HasGrown may_leave faults o (accepts_in l) (refuses_in l) book) (sym steps) grown

  pub gathers_shown : (other : BookParts D) → other ≡ book → ShowsAll other → Shows o book.history book.list
  gathers_shown other same shown =
      books_show may_leave faults o (accepts_in rests) (refuses_in rests) book grown (subst (λ (b : BookParts D). ShowsAll b) same shown)

pub gathers_lanes : (count : ℕ) (lines : List Line) (rests ran : List (List Step)) → ran ≡ rests → HaveLanes count lines rests → HaveLanes count lines ran
gathers_lanes count lines rests ran steps lanes = subst (λ (l : List (List Step)). HaveLanes count lines l) (sym steps) lanes

-- the room for marks serves
pub gathers_room : (history all opening : List Entry) (from lines room : ℕ) → history ≡ all → from ≡ length opening → length all - length opening ≤ lines → lines ≤ room
    → length history - from ≤ room
gathers_room history all opening from lines room same first few enough =
    let long : length history ≡ length all = ap (λ (l : List Entry). length l) same in
    omega (arith, first, few, enough)
