-- A link that is put at a place of a list.
use Rattle.std.proofs.Common.{◌≡◌, ◌≢◌, ℕ, zero, suc, ◌+◌, ◌-◌, ◌<◌, ◌≤◌, min, Bool, true, false, not, ◌&&◌, ◌||◌, cond, List, [], ◌∷◌, ◌++◌, length, take, drop, get_or, insert, refl, sym, ap, ◌∙◌, subst, append_assoc, length-append, arith, eqb, None}
use Rattle.std.specs.List.{filter, list_any, slice_set, IsDistinct}
use Rattle.std.proofs.lemmas.Bool.{cond-true, cond-false, eq-eqb, eqb-true, ne_eqb}
use Rattle.std.proofs.lemmas.Bool.Decides.{nat_tests}
use Rattle.std.proofs.lemmas.List.{take-append-drop}
use Rattle.std.proofs.Math.Seq.{take-append_seam, drop-append_seam}
use Rattle.std.proofs.lemmas.List.Edits.{insert-append_left, insert-append_right}
use Rattle.std.proofs.lemmas.List.Elements.{filter-append}
use Rattle.std.proofs.lemmas.List.Sorted.{IsPermutation-insert, IsPermutation-append_comm}
use Rattle.std.proofs.lemmas.Map.Keys.{IsDistinct-IsPermutation, IsDistinct-push}
use Rattle.emu_names.specs.declared.kinds.LinkKind.{LinkKind}
use Rattle.emu_names.specs.declared.kinds.LinkKind.TheVariants.{OneToOne, OneToMany, ManyToMany}
use Rattle.emu_names.specs.declared.limits.TheConstants.{BUNDLE_LINKS}
use Rattle.link_graph.specs.declared.link.Link.{Link}
use Rattle.link_graph.specs.declared.index.Index.{Index}
use Rattle.link_graph.specs.Index.{is_pair}
use Rattle.link_graph.specs.Inner.Index.{Indexes}
use Rattle.link_graph.specs.Inner.Blocks.{joined, IsRank}
use Rattle.link_graph.specs.Inner.Links.{AreLinks}
use Rattle.link_graph.specs.Link.{ArePairsApart, joins, add_fault}
use Rattle.link_graph.specs.Kind.{KeepKind, of_definition}
use Rattle.link_graph.proofs.Filters.{filter_push, filter_swap, filter_all}
use Rattle.link_graph.proofs.Joined.{joined_set, joined_at}
use Rattle.link_graph.proofs.Keeping.{joins_like}
use Rattle.link_graph.proofs.Kept.{keep_added}

-- ---- lists

module _ {X : Type 0} where
  -- what passes a test behind an insertion
  filter_insert : (p : X → Bool) (xs : List X) (i : ℕ) (y : X) →
      filter p (insert xs i y) ≡ cond (p y) (insert (filter p xs) (length (filter p (take i xs))) y) (filter p xs)
  filter_insert p xs i y =
      filter-append p (take i xs) (y ∷ drop i xs) ∙ by (p y)
    where
      front : List X
      front = filter p (take i xs)

      behind : List X
      behind = filter p (drop i xs)

      whole : front ++ behind ≡ filter p xs
      whole = sym (filter-append p (take i xs) (drop i xs)) ∙ ap (filter p) (take-append-drop i xs)

      by : (b : Bool) → front ++ cond b (y ∷ behind) behind ≡ cond b (insert (filter p xs) (length front) y) (filter p xs)
      by true =
          ap (λ ys. ys ++ y ∷ behind) (sym (take-append_seam front behind))
          ∙ ap (λ ys. take (length front) (front ++ behind) ++ y ∷ ys) (sym (drop-append_seam front behind))
          ∙ ap (λ ys. insert ys (length front) y) whole
      by false = whole

  any_middle : (p : X → Bool) (xs : List X) (y : X) (ys : List X) → list_any p (xs ++ y ∷ ys) ≡ (p y || list_any p (xs ++ ys))
  any_middle p [] y ys = refl
  any_middle p (x ∷ xs) y ys = ap (λ b. p x || b) (any_middle p xs y ys) ∙ swap (p x) (p y) (list_any p (xs ++ ys))
    where
      swap : (a b c : Bool) → (a || (b || c)) ≡ (b || (a || c))
      swap true true c = refl
      swap true false c = refl
      swap false true c = refl
      swap false false c = refl

  any_insert : (p : X → Bool) (xs : List X) (i : ℕ) (y : X) → list_any p (insert xs i y) ≡ (list_any p xs || p y)
  any_insert p xs i y =
      any_middle p (take i xs) y (drop i xs) ∙ ap (λ ys. p y || list_any p ys) (take-append-drop i xs) ∙ flip (p y) (list_any p xs)
    where
      flip : (a b : Bool) → (a || b) ≡ (b || a)
      flip true true = refl
      flip true false = refl
      flip false true = refl
      flip false false = refl

  pub length_insert : (xs : List X) (i : ℕ) (y : X) → length (insert xs i y) ≡ suc (length xs)
  length_insert xs i y =
      let whole = length-append (take i xs) (y ∷ drop i xs) in
      let parts = sym (length-append (take i xs) (drop i xs)) ∙ ap length (take-append-drop i xs) in
      omega (arith, whole, parts)

  -- what differs from all where it is last differs from all at every place
  distinct_insert : (e : X → X → Bool) → ((x y : X) → e x y ≡ e y x) → (xs : List X) (i : ℕ) (y : X) → IsDistinct e (xs ++ y ∷ []) → IsDistinct e (insert xs i y)
  distinct_insert e flips xs i y h =
      IsDistinct-IsPermutation e flips (y ∷ xs) (insert xs i y) (IsPermutation-insert xs i y)
      (IsDistinct-IsPermutation e flips (xs ++ y ∷ []) (y ∷ xs) (IsPermutation-append_comm xs (y ∷ [])) h)

-- ---- kinds

of_insert : (definition : ℕ) (links : List Link) (place : ℕ) (link : Link) →
    of_definition definition (insert links place link)
    ≡ cond (eqb link.definition definition) (insert (of_definition definition links) (length (of_definition definition (take place links))) link) (of_definition definition links)
of_insert definition links place link = filter_insert (λ l. eqb l.definition definition) links place link

same_end : (a b : ℕ) → eqb a b ≡ eqb b a
same_end a b = grind (arith, nat_tests)

module _ (link : Link) (place : ℕ) (links : List Link) where
  own_last : of_definition link.definition (links ++ link ∷ []) ≡ of_definition link.definition links ++ link ∷ []
  own_last =
      filter_push (λ l. eqb l.definition link.definition) links link
      ∙ cond-true (eqb link.definition link.definition) (of_definition link.definition links ++ link ∷ []) (of_definition link.definition links) (eq-eqb link.definition link.definition refl)

  own_placed : of_definition link.definition (insert links place link) ≡ insert (of_definition link.definition links) (length (of_definition link.definition (take place links))) link
  own_placed =
      of_insert link.definition links place link
      ∙ cond-true (eqb link.definition link.definition) (insert (of_definition link.definition links) (length (of_definition link.definition (take place links))) link)
      (of_definition link.definition links) (eq-eqb link.definition link.definition refl)

  placed : (e : Link → Link → Bool) → ((x y : Link) → e x y ≡ e y x) → IsDistinct e (of_definition link.definition (links ++ link ∷ [])) →
      IsDistinct e (of_definition link.definition (insert links place link))
  placed e flips h =
      subst (IsDistinct e) (sym own_placed)
      (distinct_insert e flips (of_definition link.definition links) (length (of_definition link.definition (take place links))) link (subst (IsDistinct e) own_last h))

  moved : (kind : LinkKind) → KeepKind kind link.definition (links ++ link ∷ []) → KeepKind kind link.definition (insert links place link)
  moved OneToOne h = (placed (λ a b. eqb a.to.0 b.to.0) (λ x y. same_end x.to.0 y.to.0) h.0, placed (λ a b. eqb a.from.0 b.from.0) (λ x y. same_end x.from.0 y.from.0) h.1)
  moved OneToMany h = placed (λ a b. eqb a.to.0 b.to.0) (λ x y. same_end x.to.0 y.to.0) h
  moved ManyToMany h = tt

pub keep_inserted : (kind : LinkKind) (link : Link) (place : ℕ) (links : List Link) → add_fault kind link.definition link.from link.to links ≡ None →
    KeepKind kind link.definition links → KeepKind kind link.definition (insert links place link)
keep_inserted kind link place links free keeps = moved link place links kind (keep_added kind link links free keeps)

pub keep_other_inserted : (kind : LinkKind) (definition : ℕ) (link : Link) (place : ℕ) (links : List Link) → link.definition ≢ definition →
    KeepKind kind definition links → KeepKind kind definition (insert links place link)
keep_other_inserted kind definition link place links apart keeps = kept kind same keeps
  where
    same : of_definition definition (insert links place link) ≡ of_definition definition links
    same =
        of_insert definition links place link
        ∙ cond-false (eqb link.definition definition) (insert (of_definition definition links) (length (of_definition definition (take place links))) link)
        (of_definition definition links) (ne_eqb link.definition definition apart)

    kept : (kind : LinkKind) → of_definition definition (insert links place link) ≡ of_definition definition links →
        KeepKind kind definition links → KeepKind kind definition (insert links place link)
    kept OneToOne is h = (rw is h.0, rw is h.1)
    kept OneToMany is h = rw is h
    kept ManyToMany is h = h

pub joins_flip : (x y : Link) → joins x.from x.to y ≡ joins y.from y.to x
joins_flip x y = grind (arith, nat_tests)

pub pairs_inserted : (link : Link) (place : ℕ) (links : List Link) → list_any (joins link.from link.to) links ≡ false → ArePairsApart links → ArePairsApart (insert links place link)
pairs_inserted link place links free apart =
    distinct_insert (λ a b. joins a.from a.to b) joins_flip links place link (IsDistinct-push joins_like links link apart free)

-- ---- the list of links and its index

pub insert_kept : (link : Link) (place : ℕ) (links after : List Link) (old new : Index) → AreLinks links old → length links < BUNDLE_LINKS →
    list_any (joins link.from link.to) links ≡ false → after ≡ insert links place link → Indexes new (insert links place link) → AreLinks after new
insert_kept link place links after old new h room apart is indexed =
    let size = length_insert links place link in
    rw is
    (record {
      apart = pairs_inserted link place links apart h.apart;
      limit = omega (arith, size, room);
      indexed = indexed;
    })

-- the list without the link that was put in
pub undone_insert : (link : Link) (place : ℕ) (links : List Link) → list_any (joins link.from link.to) links ≡ false →
    filter (λ l. not (joins link.from link.to l)) (insert links place link) ≡ links
undone_insert link place links apart =
    let itself : joins link.from link.to link ≡ true = grind (arith, nat_tests) in
    filter_insert (λ l. not (joins link.from link.to l)) links place link
    ∙ cond-false (not (joins link.from link.to link)) _ (filter (λ l. not (joins link.from link.to l)) links) (ap not itself)
    ∙ filter_all (joins link.from link.to) links apart

-- the links of an item where one that was put in is taken out again
pub untaken_at : (p : Link → Bool) (link : Link) (place : ℕ) (links now after : List Link) → list_any (joins link.from link.to) links ≡ false →
    now ≡ filter p (insert links place link) → after ≡ cond (p link) (filter (λ l. not (joins link.from link.to l)) now) now → after ≡ filter p links
untaken_at p link place links now after apart is gone = by (p link) refl
  where
    gone_from : List Link → List Link
    gone_from ls = filter (λ l. not (joins link.from link.to l)) ls

    by : (b : Bool) → p link ≡ b → after ≡ filter p links
    by true own =
        gone ∙ cond-true (p link) (gone_from now) now own ∙ ap gone_from is
        ∙ filter_swap (λ l. not (joins link.from link.to l)) p (insert links place link) ∙ ap (filter p) (undone_insert link place links apart)
    by false other =
        gone ∙ cond-false (p link) (gone_from now) now other ∙ is
        ∙ filter_insert p links place link ∙ cond-false (p link) _ (filter p links) other

-- a list of at most one link, and a place past the end
pub insert_none : (place : ℕ) (link : Link) → link ∷ [] ≡ insert [] place link
insert_none zero link = refl
insert_none (suc place) link = refl

pub insert_least : (links : List Link) (place at : ℕ) (link : Link) → at ≡ min place (length links) → insert links at link ≡ insert links place link
insert_least [] place at link is = sym (insert_none at link) ∙ insert_none place link
insert_least (x ∷ links) zero at link is = let none : at ≡ 0 = omega (arith, is) in ap (λ n. insert (x ∷ links) n link) none
insert_least (x ∷ links) (suc place) zero link is = let no : ⊥ = omega (arith, is) in absurd no
insert_least (x ∷ links) (suc place) (suc at) link is =
    let less : at ≡ min place (length links) = omega (arith, is) in
    ap (λ ls. x ∷ ls) (insert_least links place at link less)

-- the links of an item with one put in
pub inserted_at : (p : Link → Bool) (links old new : List Link) (place rank : ℕ) (link : Link) → old ≡ filter p links → IsRank p links place rank →
    new ≡ cond (p link) (insert old rank link) old → new ≡ filter p (insert links place link)
inserted_at p links old new place rank link is ranked made =
    made ∙ ap (λ ls. cond (p link) (insert ls rank link) ls) is ∙ ap (λ ls. cond (p link) ls (filter p links)) (ranked link)
    ∙ sym (filter_insert p links place link)

-- at another item's id the rank is no matter
pub inserted_for : (end : Link → ℕ) (links old new : List Link) (place rank id : ℕ) (link : Link) → old ≡ filter (λ l. eqb (end l) id) links →
    IsRank (λ l. eqb (end l) (end link)) links place rank →
    new ≡ cond (eqb (end link) id) (insert old rank link) old → new ≡ filter (λ l. eqb (end l) id) (insert links place link)
inserted_for end links old new place rank id link is ranked made = by (eqb (end link) id) refl
  where
    p : Link → Bool
    p = λ l. eqb (end l) id

    by : (b : Bool) → eqb (end link) id ≡ b → new ≡ filter p (insert links place link)
    by true same =
        let here : end link ≡ id = eqb-true (end link) id same in
        inserted_at p links old new place rank link is (subst (λ n. IsRank (λ l. eqb (end l) n) links place rank) here ranked) made
    by false apart =
        made ∙ cond-false (eqb (end link) id) (insert old rank link) old apart ∙ is
        ∙ sym (filter_insert p links place link ∙ cond-false (eqb (end link) id) _ (filter p links) apart)

pub inserted_pair : (a b : ℕ) (links : List Link) (place : ℕ) (link : Link) (before now : Bool) → before ≡ list_any (is_pair a b) links →
    now ≡ (before || (eqb link.from.0 a && eqb link.to.0 b)) → now ≡ list_any (is_pair a b) (insert links place link)
inserted_pair a b links place link before now is made =
    made ∙ ap (λ t. t || (eqb link.from.0 a && eqb link.to.0 b)) is ∙ sym (any_insert (is_pair a b) links place link)

-- ---- blocks

-- a link put into a block
pub block_inserted : (blocks : List (List Link)) (at place : ℕ) (link : Link) → at < length blocks → place ≤ length (get_or blocks at []) →
    joined (slice_set blocks at (insert (get_or blocks at []) place link)) ≡ insert (joined blocks) (length (joined (take at blocks)) + place) link
block_inserted blocks at place link within inside =
    let front = joined (take at blocks) in
    let block = get_or blocks at [] in
    let behind = joined (drop (suc at) blocks) in
    let less : (length front + place) - length front ≡ place = omega arith in
    joined_set blocks at (insert block place link) within
    ∙ ap (λ ls. front ++ ls) (sym (insert-append_left block behind place link inside))
    ∙ ap (λ n. front ++ insert (block ++ behind) n link) (sym less)
    ∙ sym (insert-append_right front (block ++ behind) (length front) (length front + place) link refl (omega arith))
    ∙ ap (λ ls. insert ls (length front + place) link) (sym (joined_at blocks at within))

-- a block cut in two
pub block_cut : (blocks : List (List Link)) (at len : ℕ) → at < length blocks →
    joined (slice_set (insert blocks (suc at) (drop len (get_or blocks at []))) at (take len (get_or blocks at []))) ≡ joined blocks
block_cut [] at len within = let no : ⊥ = omega arith in absurd no
block_cut (b ∷ blocks) zero len within =
    sym (append_assoc (take len b) (drop len b) (joined blocks)) ∙ ap (λ ls. ls ++ joined blocks) (take-append-drop len b)
block_cut (b ∷ blocks) (suc at) len within = ap (λ ls. b ++ ls) (block_cut blocks at len (omega arith))

-- ---- counts

take_nothing : {X : Type 0} (n : ℕ) → take {A = X} n [] ≡ []
take_nothing zero = refl
take_nothing (suc n) = refl

pub take_both : {X : Type 0} (n : ℕ) (xs ys : List X) → take n (xs ++ ys) ≡ take n xs ++ take (n - length xs) ys
take_both {X = X} n [] ys = let same : n ≡ n - 0 = omega arith in ap (λ m. take m ys) same ∙ ap (λ zs. zs ++ take (n - 0) ys) (sym (take_nothing {X = X} n))
take_both zero (x ∷ xs) ys = let none : 0 - length (x ∷ xs) ≡ 0 = omega arith in sym (ap (λ m. take m ys) none)
take_both (suc n) (x ∷ xs) ys =
    let same : n - length xs ≡ suc n - length (x ∷ xs) = omega arith in
    ap (λ zs. x ∷ zs) (take_both n xs ys ∙ ap (λ m. take n xs ++ take m ys) same)
