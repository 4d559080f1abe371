-- What a run makes before its first line.
use Rattle.std.proofs.Common.{below_more, ◌≡◌, ℕ, zero, suc, ◌+◌, ◌-◌, ◌<◌, ◌≤◌, Bool, true, false, ◌||◌, List, [], ◌∷◌, ◌++◌, length, length-append, map, get_or, nat_eq, refl, sym, ap, subst, ◌∙◌, arith}
use mathlib.Core.List.{IsPrefix}
use Rattle.std.specs.List.{All, list_any}
use Rattle.std.proofs.lemmas.List.{length-map}
use Rattle.std.proofs.Math.ListN.{get_or-append, get_or-map}
use Rattle.std.proofs.Math.Seq.{get_or-append_seam}
use Rattle.std.proofs.lemmas.Bool.Decides.{nat_tests}
use Rattle.version_gate.specs.declared.entry.Entry.{Entry as Numbered}
use Rattle.version_gate.specs.Lists.{Numbered as IsNumbered}
use Rattle.version_gate.proofs.Beginnings.{prefix_self}
use Rattle.version_gate.proofs.Numbers.{same_start}
use Rattle.live_seats.specs.session_core.declared.line.Line.{Line}
use Rattle.live_seats.specs.session_core.declared.line.Request.{Request}
use Rattle.live_seats.specs.session_core.declared.line.Request.TheVariants as requests
use Rattle.live_seats.specs.session_core.InOrder.{ComeInOrder, NamesEarlier}
use Rattle.live_seats.specs.session_core.Worlds.{Each}
use Rattle.live_seats.specs.live_book.declared.published.Published.{Published}
use Rattle.live_seats.proofs.of_live_book.Lists.{prefix_length}
use Rattle.live_seats.specs.declared.lane.Lane.TheVariants as lanes
use Rattle.live_seats.specs.Inner.Seats.{IsAsked, NamesCell, SeatParts, lines_of}
use Rattle.live_run.specs.Inner.Running.{AreFree, HaveRoom, IsFresh, IsUnder}
use Rattle.live_run.proofs.Joins.{each_more}

-- a longer list has no lower number
pub seen_more : (k m : ℕ) (xs ys : List (Numbered Published)) → IsNumbered k xs → IsNumbered m ys → IsPrefix xs ys → k ≤ m
seen_more k m xs ys low high begins =
    let start : low.0 ≡ high.0 =
    same_start low.0 high.0 xs ys ys low.3 high.3 begins (prefix_self ys) low.1 high.1 in
    let long : length xs ≤ length ys = prefix_length xs ys begins in
    let a = low.2 in let b = high.2 in omega arith

-- what holds of all elements holds of the last one
pub all_last : {A : Type 0} (P : A → Type 0) (old new : List A) (x : A) → All P old → old ≡ new ++ x ∷ [] → P x
all_last P old new x all is =
    let long : length old ≡ length new + 1 = ap length is ∙ length-append new (x ∷ []) in
    let here : get_or old (length new) x ≡ x = rw is (get_or-append_seam new x [] x) in
    subst P here (all (length new) x (omega arith))

-- and of those before it
pub all_front : {A : Type 0} (P : A → Type 0) (old new : List A) (x : A) → All P old → old ≡ new ++ x ∷ [] → All P new
all_front P old new x all is k d below =
    let long : length old ≡ length new + 1 = ap length is ∙ length-append new (x ∷ []) in
    let here : get_or old k d ≡ get_or new k d = rw is (get_or-append new (x ∷ []) d k below) in
    subst P here (all k d (omega arith))

-- what holds of each element holds at each place
pub each_at : {A : Type 0} (P : A → Type 0) (xs : List A) → Each P xs → All P xs
each_at P [] each k d below = absurd (omega arith)
each_at P (x ∷ xs) each zero d below = each.0
each_at P (x ∷ xs) each (suc k) d below = each_at P xs each.1 k d (omega arith)

-- and the other way round
pub each_from : {A : Type 0} (P : A → Type 0) (xs : List A) → All P xs → Each P xs
each_from P [] all = tt
each_from P (x ∷ xs) all = (all zero x (omega arith), each_from P xs (λ k d below. all (suc k) d (omega arith)))

-- seats that have answered no line are free for the lanes that they have room for
pub free_from : (seats : ℕ) (lines : List Line) (rooms : List ℕ) (free : List SeatParts) → HaveRoom seats lines rooms
    → map (λ (s : SeatParts). s.room) free ≡ rooms → Each IsFresh free → AreFree seats lines free
free_from seats lines rooms free have same fresh k d below =
    let it : IsFresh (get_or free k d) = each_at IsFresh free fresh k d below in
    let long : length rooms ≡ length free = ap length (sym same) ∙ length-map free (λ (s : SeatParts). s.room) in
    let here : get_or rooms k d.room ≡ (get_or free k d).room =
    ap (λ (xs : List ℕ). get_or xs k d.room) (sym same) ∙ get_or-map (λ (s : SeatParts). s.room) free k d in
    let enough : length (lines_of (lanes.Seat seats (seats - 2 - k)) lines) ≤ get_or rooms k d.room =
    have k d.room (omega arith) in
    record { steps = it.steps; room = omega arith; part = it.part }

one_of : (b rest : Bool) (a e cells : ℕ) → nat_eq a e ≡ b → (b || rest) ≡ true → a < cells → (rest ≡ true → e < cells) → e < cells
one_of true rest a e cells same any low more = grind (arith, nat_tests)
one_of false rest a e cells same any low more = more any

-- a line that is named is one of these
under_any : (cells earlier : ℕ) (before : List Line) → list_any (λ (l : Line). nat_eq l.line earlier) before ≡ true
    → Each (IsUnder cells) before → earlier < cells
under_any cells earlier [] any low = absurd cc
under_any cells earlier (l ∷ before) any low =
    one_of (nat_eq l.line earlier) (list_any (λ (x : Line). nat_eq x.line earlier) before) l.line earlier cells refl any low.0
    (λ more. under_any cells earlier before more low.1)

named_cell : (cells : ℕ) (before : List Line) (r : Request) → NamesEarlier before r → Each (IsUnder cells) before → NamesCell cells r
named_cell cells before (requests.After earlier) named low = under_any cells earlier before named low
named_cell cells before (requests.Edit given) named low = tt
named_cell cells before (requests.Undo earlier) named low = tt
named_cell cells before (requests.Query ask) named low = tt
named_cell cells before (requests.Look ask) named low = tt
named_cell cells before requests.Finish named low = tt

-- lanes can answer the lines of a script, where there is a cell for each
pub asked_from : (cells : ℕ) (before ls : List Line) → ComeInOrder before ls → Each (IsUnder cells) before → Each (IsUnder cells) ls
    → Each (IsAsked cells) ls
asked_from cells before [] come low lows = tt
asked_from cells before (l ∷ ls) come low lows = (
  record {
    place = come.0.place;
    command = come.0.command;
    cell = lows.0;
    named = named_cell cells before l.request come.0.earlier low;
  },
  asked_from cells (before ++ l ∷ []) ls come.1 (each_more (IsUnder cells) before l low lows.0) lows.1,
)

-- a list seen as it is
pub map_same : {A : Type 0} (xs : List A) → map (λ x. x) xs ≡ xs
map_same [] = refl
map_same {A = A} (x ∷ xs) = ap (λ (l : List A). x ∷ l) (map_same xs)

-- room for one lane more
pub room_more : (seats at : ℕ) (lines : List Line) (old more : List ℕ) (place : ℕ) → HaveRoom seats lines old
    → more ≡ old ++ place ∷ [] → length old + 1 ≡ at
    → length (lines_of (lanes.Seat seats (seats - 1 - at)) lines) ≡ place → HaveRoom seats lines more
room_more seats at lines old more place have is number enough k d below =
    let P : ℕ → Type 0 = λ n. length (lines_of (lanes.Seat seats (seats - 2 - n)) lines) ≤ get_or more n d in
    let low : (n : ℕ) → n < length old → P n =
    λ n under. rw (is, get_or-append old (place ∷ []) d n under) (have n d under) in
    let same : seats - 1 - at ≡ seats - 2 - length old = omega arith in
    let exact : length (lines_of (lanes.Seat seats (seats - 2 - length old)) lines) ≡ place =
    subst (λ (n : ℕ). length (lines_of (lanes.Seat seats n) lines) ≡ place) same enough in
    let there : get_or more (length old) d ≡ place = rw is (get_or-append_seam old place [] d) in
    let here : P (length old) = omega arith in
    let long : length more ≡ length old + 1 = ap length is ∙ length-append old (place ∷ []) in
    below_more P (length old) low here k (omega arith)
