-- Published lists, and the histories whose states they show.
use Rattle.std.proofs.Common.{◌≡◌, ◌⊎◌, ⊎_elim, ℕ, suc, ◌+◌, ◌≤◌, List, [], ◌∷◌, ◌++◌, length, take, drop, Option, None, Some, refl, sym, ◌∙◌, ap, subst, arith, append_assoc, length-append, take-append-drop}
use Rattle.std.proofs.lemmas.List.{append-nil, length-take-le, take-append-le}
use Rattle.std.proofs.Math.Seq.{take-append_seam, drop-append_seam}
use mathlib.Core.List.{IsPrefix}
use Rattle.db_config.specs.declared.parts.ConfigParts.{ConfigParts}
use Rattle.version_steps.specs.edit_rules.declared.acts.Entry.{Entry}
use Rattle.version_gate.specs.declared.entry.Entry.{Entry as Numbered}
use Rattle.version_gate.specs.Lists.{entry, Rises, Numbered as IsNumbered}
use Rattle.version_gate.proofs.Beginnings.{prefix_shorter, prefix_whole}
use Rattle.version_gate.proofs.Numbers.{lower_begins}
use Rattle.live_book.specs.declared.published.Published.{Published}
use Rattle.live_book.specs.Published.{IsStateAfter, IsShown, AreShownBehind, AreShown}
use Rattle.live_book.specs.Live.{Opened, Shows}
use Rattle.live_book.specs.Laws.{HistoriesBegin, ListsAreNumbered, ListsBegin, ListsEnd, ShowsBeginning}

-- A pass that knows no more than a book and learns the book's list has this list.

module _ {A : Type 0} where
  pub prefix_length : (xs ys : List A) → IsPrefix xs ys → length xs ≤ length ys
  prefix_length xs ys p = omega (arith, ap (λ (l : List A). length l) p.1, length-append xs p.0)

  -- what begins a list also begins with the same of it
  pub begun_take : (n : ℕ) (xs ys : List A) → IsPrefix xs ys → n ≤ length xs → take n ys ≡ take n xs
  begun_take n xs ys p low = ap (λ (l : List A). take n l) (sym p.1) ∙ take-append-le n xs p.0 low

  -- one more front for both
  pub front_begins : (front xs ys : List A) → IsPrefix xs ys → IsPrefix (front ++ xs) (front ++ ys)
  front_begins front xs ys p = (p.0, append_assoc front xs p.0 ∙ ap (λ (l : List A). front ++ l) p.1)

  pub cons_begins : (x : A) (xs ys : List A) → IsPrefix xs ys → IsPrefix (x ∷ xs) (x ∷ ys)
  cons_begins x xs ys p = (p.0, ap (λ (l : List A). x ∷ l) p.1)

module _ {T : Type 0} where
  pub learnt_whole : (k n : ℕ) (before note after : List (Numbered T)) → IsNumbered k before → IsNumbered n note → k ≤ n → IsPrefix before after → IsPrefix note after → (after ≡ before) ⊎ (after ≡ note) → after ≡ note
  learnt_whole k n before note after a b le p q which = ⊎_elim
      (λ same.
      let short : IsPrefix before note = lower_begins k n before note after a b p q le in
      let whole : IsPrefix note before = subst (λ (l : List (Numbered T)). IsPrefix note l) same q in
      same ∙ sym (prefix_whole note before whole (prefix_length before note short)))
      (λ same. same)
      which

-- Lists that show the states after histories.

-- what a list of versions begins, the entries begin
pub behind_begins : (c : ConfigParts) (h g later more : List Entry) (list longer rest : List (Numbered Published)) → AreShownBehind c h later list → AreShownBehind c g more longer → list ++ rest ≡ longer → IsPrefix later more
behind_begins c h g [] more list longer rest one two is = (more, refl)
behind_begins c h g (e ∷ later) more [] longer rest one two is = absurd one
behind_begins c h g (e ∷ later) [] (s ∷ list) longer rest one two is = absurd cc
behind_begins c h g (e ∷ later) (f ∷ more) (s ∷ list) [] rest one two is = absurd two
behind_begins c h g (e ∷ later) (f ∷ more) (s ∷ list) (t ∷ longer) rest one two is =
    let heads : s ≡ t = cc in
    let tails : list ++ rest ≡ longer = cc in
    let lasts : Some e ≡ Some f = sym one.0.last ∙ (ap (λ (x : Numbered Published). x.version.last) heads ∙ two.0.last) in
    let same : e ≡ f = cc in
    let further = behind_begins c (h ++ e ∷ []) (g ++ f ∷ []) later more list longer rest one.1 two.1 tails in
    (further.0, cc (same, further.1))

pub shown_begins : (c : ConfigParts) (front later more : List Entry) (list longer : List (Numbered Published)) → AreShown c front later list → AreShown c front more longer → IsPrefix list longer → IsPrefix later more
shown_begins c front later more [] longer one two p = absurd one
shown_begins c front later more (s ∷ list) [] one two p = absurd two
shown_begins c front later more (s ∷ list) (t ∷ longer) one two p =
    behind_begins c front front later more list longer p.0 one.1 two.1 (cc (p.1))

-- the last version of a list shows the state after all its entries
pub behind_ends : (c : ConfigParts) (h later : List Entry) (last : Option Entry) (s : Numbered Published) (list before : List (Numbered Published)) (e : Numbered Published) → IsShown c h last s → AreShownBehind c h later list
    → s ∷ list ≡ before ++ e ∷ [] → (e.number ≡ length (h ++ later)) × IsStateAfter c (h ++ later) e.version.version
behind_ends c h [] last s list [] e first all is =
    let same : s ≡ e = cc in
    let none : h ++ [] ≡ h = append-nil h in (
      ap (λ (x : Numbered Published). x.number) (sym same) ∙ (first.number ∙ ap (λ (l : List Entry). length l) (sym none)),
      subst (λ (l : List Entry). IsStateAfter c l e.version.version) (sym none) (subst (λ (x : Numbered Published). IsStateAfter c h x.version.version) same first.version),
    )
behind_ends c h [] last s list (b ∷ before) e first all is =
    let none : [] ≡ before ++ e ∷ [] = cc in
    let long : 0 ≡ length (before ++ e ∷ []) = ap (λ (l : List (Numbered Published)). length l) none in
    absurd (omega (arith, long, length-append before (e ∷ [])))
behind_ends c h (x ∷ later) last s [] before e first all is = absurd all
behind_ends c h (x ∷ later) last s (t ∷ list) [] e first all is = absurd cc
behind_ends c h (x ∷ later) last s (t ∷ list) (b ∷ before) e first all is =
    let tails : t ∷ list ≡ before ++ e ∷ [] = cc in
    let found = behind_ends c (h ++ x ∷ []) later (Some x) t list before e all.0 all.1 tails in
    subst (λ (l : List Entry). (e.number ≡ length l) × IsStateAfter c l e.version.version) (append_assoc h (x ∷ []) later) found

pub shown_ends : (c : ConfigParts) (front later : List Entry) (list before : List (Numbered Published)) (e : Numbered Published) → AreShown c front later list → list ≡ before ++ e ∷ []
    → (e.number ≡ length (front ++ later)) × IsStateAfter c (front ++ later) e.version.version
shown_ends c front later [] before e all is = absurd all
shown_ends c front later (s ∷ list) before e all is = behind_ends c front later None s list before e all.0 all.1 is

-- a beginning of a list shows the states after a beginning of the entries
pub record IsCut (c : ConfigParts) (h later : List Entry) (list : List (Numbered Published)) : Type 0 where
  pub cut : List Entry
  pub begins : IsPrefix cut later
  pub shown : AreShownBehind c h cut list
  pub long : length cut ≡ length list

pub behind_cut : (c : ConfigParts) (h later : List Entry) (list longer rest : List (Numbered Published)) → AreShownBehind c h later longer → list ++ rest ≡ longer → IsCut c h later list
behind_cut c h later [] longer rest all is = record { cut = []; begins = (later, refl); shown = refl; long = refl }
behind_cut c h [] (s ∷ list) longer rest all is = absurd cc
behind_cut c h (e ∷ later) (s ∷ list) [] rest all is = absurd all
behind_cut c h (e ∷ later) (s ∷ list) (t ∷ longer) rest all is =
    let heads : s ≡ t = cc in
    let tails : list ++ rest ≡ longer = cc in
    let more = behind_cut c (h ++ e ∷ []) later list longer rest all.1 tails in
    record {
      cut = e ∷ more.cut;
      begins = cons_begins e more.cut later more.begins;
      shown = (subst (λ (x : Numbered Published). IsShown c (h ++ e ∷ []) (Some e) x) (sym heads) all.0, more.shown);
      long = omega (arith, more.long);
    }

-- the numbers of a list that shows the states after entries
pub behind_rises : (c : ConfigParts) (h later : List Entry) (list : List (Numbered Published)) (n : ℕ) → n ≡ length h + 1 → AreShownBehind c h later list → Rises n list × (length list ≡ length later)
behind_rises c h [] [] n is all = (tt, refl)
behind_rises c h [] (s ∷ list) n is all = absurd cc
behind_rises c h (e ∷ later) [] n is all = absurd all
behind_rises c h (e ∷ later) (s ∷ list) n is all =
    let long : length (h ++ e ∷ []) ≡ length h + 1 = length-append h (e ∷ []) in
    let more = behind_rises c (h ++ e ∷ []) later list (suc n) (omega (arith, is, long)) all.1 in
    ((all.0.number ∙ omega (arith, is, long), more.0), omega (arith, more.1))

pub shown_numbered : (c : ConfigParts) (front later : List Entry) (list : List (Numbered Published)) (k : ℕ) → AreShown c front later list → k ≡ length (front ++ later) → IsNumbered k list
shown_numbered c front later [] k all is = absurd all
shown_numbered c front later (s ∷ list) k all is =
    let more = behind_rises c front later list (suc s.number) (omega (arith, all.0.number)) all.1 in
    let first = all.0.number in
    (s.number, (refl, more.0), omega (arith, first, more.1, is, length-append front later), omega arith)

-- a beginning of a list, with the beginning of the entries that it shows
pub shown_cut : (c : ConfigParts) (front later : List Entry) (s : Numbered Published) (list longer rest : List (Numbered Published)) → AreShown c front later longer → (s ∷ list) ++ rest ≡ longer → IsShown c front None s × IsCut c front later list
shown_cut c front later s list [] rest all is = absurd all
shown_cut c front later s list (t ∷ longer) rest all is =
    let heads : s ≡ t = cc in
    let tails : list ++ rest ≡ longer = cc in
    (subst (λ (x : Numbered Published). IsShown c front None x) (sym heads) all.0, behind_cut c front later list longer rest all.1 tails)

-- The laws.

pub histories_begin : HistoriesBegin
histories_begin o H more list longer one two p =
    let front : take o.from more ≡ take o.from H = begun_take o.from o.entries more two.goes_on two.from ∙ sym (begun_take o.from o.entries H one.goes_on one.from) in
    let moved : AreShown o.config (take o.from H) (drop o.from more) longer = subst (λ (l : List Entry). AreShown o.config l (drop o.from more) longer) front two.shown in
    let tails : IsPrefix (drop o.from H) (drop o.from more) = shown_begins o.config (take o.from H) (drop o.from H) (drop o.from more) list longer one.shown moved p in
    let whole : IsPrefix (take o.from H ++ drop o.from H) (take o.from H ++ drop o.from more) = front_begins (take o.from H) (drop o.from H) (drop o.from more) tails in
    let right : take o.from H ++ drop o.from more ≡ more = ap (λ (l : List Entry). l ++ drop o.from more) (sym front) ∙ take-append-drop o.from more in
    subst (λ (l : List Entry). IsPrefix l more) (take-append-drop o.from H) (subst (λ (l : List Entry). IsPrefix (take o.from H ++ drop o.from H) l) right whole)

pub lists_end : ListsEnd
lists_end o H list n version is ends =
    subst (λ (l : List Entry). (n ≡ length l) × IsStateAfter o.config l version.version) (take-append-drop o.from H)
    (shown_ends o.config (take o.from H) (drop o.from H) list ends.0 (entry n version) is.shown ends.1)

pub lists_are_numbered : ListsAreNumbered
lists_are_numbered o H list is =
    shown_numbered o.config (take o.from H) (drop o.from H) list (length H) is.shown (ap (λ (l : List Entry). length l) (sym (take-append-drop o.from H)))

-- the beginning of so many entries, and the rest
cut_shows : (o : Opened) (H : List Entry) (s : Numbered Published) (list longer : List (Numbered Published)) (k : ℕ) → Shows o H longer → IsPrefix (s ∷ list) longer → IsNumbered k (s ∷ list) → length o.entries ≤ k
    → IsShown o.config (take o.from H) None s × IsCut o.config (take o.from H) (drop o.from H) list → ShowsBeginning o H (s ∷ list) k
cut_shows o H s list longer k is p numbered low found =
    let front : List Entry = take o.from H in
    let cut : List Entry = found.1.cut in
    let first : s.number ≡ length front = found.0.number in
    let wide : length o.entries ≤ length H = prefix_length o.entries H is.goes_on in
    let short : length front ≡ o.from = length-take-le o.from H (omega (arith, wide, is.from)) in
    let many : length (front ++ cut) ≡ k = omega (arith, length-append front cut, found.1.long, first, numbered.1.0, numbered.2) in
    let begins : IsPrefix (front ++ cut) H = subst (λ (l : List Entry). IsPrefix (front ++ cut) l) (take-append-drop o.from H) (front_begins front cut (drop o.from H) found.1.begins) in
    let own : take o.from (front ++ cut) ≡ front = subst (λ (n : ℕ). take n (front ++ cut) ≡ front) short (take-append_seam front cut) in
    let rest : drop o.from (front ++ cut) ≡ cut = subst (λ (n : ℕ). drop n (front ++ cut) ≡ cut) short (drop-append_seam front cut) in
    record {
      beginning = front ++ cut;
      begins = begins;
      shown = record {
        goes_on = prefix_shorter o.entries (front ++ cut) H is.goes_on begins (omega (arith, low, many));
        from = is.from;
        shown =
            subst (λ (l : List Entry). AreShown o.config l (drop o.from (front ++ cut)) (s ∷ list)) (sym own)
            (subst (λ (l : List Entry). AreShown o.config front l (s ∷ list)) (sym rest) (found.0, found.1.shown));
      };
      long = many;
    }

pub lists_begin : ListsBegin
lists_begin o H [] longer k is p numbered low = absurd (omega (arith, numbered.3))
lists_begin o H (s ∷ list) longer k is p numbered low =
    cut_shows o H s list longer k is p numbered low (shown_cut o.config (take o.from H) (drop o.from H) s list longer p.0 is.shown p.1)
