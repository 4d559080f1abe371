-- Rows of links that stay, where neither links nor ids change.
use Rattle.std.proofs.Common.{◌≡◌, ◌⊎◌, inl, inr, ℕ, ◌+◌, ◌<◌, ◌≤◌, ◌==◌, ◌&&◌, ◌++◌, ◌∷◌, Bool, true, false, true≢false, List, [], length, map, get_or, take, sym, ap, ◌∙◌, subst, Some, Result, Ok, Err, IfOk, ⊎_elim, arith}
use Rattle.std.specs.List.{slice_get}
use Rattle.std.proofs.lemmas.Bool.{and_parts, cases_Bool, cases_lt, eqb-true}
use Rattle.std.proofs.lemmas.List.{map-append, get_or_past, take_all, take_more, take_more_same}
use Rattle.std.proofs.lemmas.Option.{slice_get_within, get_or_from_slice_get}
use Rattle.emu_names.specs.declared.kinds.ItemId.{ItemId}
use Rattle.level_items.specs.declared.items.Item.{Item}
use Rattle.level_items.specs.Levels.{Level, ids_of}
use Rattle.link_graph.specs.Link.{link_of}
use Rattle.link_graph.specs.declared.link.Link.{Link}
use Rattle.bundle_state.specs.Bundle.{BundleParts}
use Rattle.bundle_state.specs.Valid.{KeepsBundleRules}
use Rattle.hier_closure.specs.Dominance.{ids_at}
use Rattle.hier_closure.specs.Inner.Linked.{AreAlike, AreLinkedIn, HaveSameIdsBut, HaveSameIdsOn, linked_of, linked_row}
use Rattle.hier_closure.specs.declared.linked.LinkedLevels.{LinkedLevels}

-- ---- lists that are compared place by place

abbrev pub item_id : ℕ → ItemId
item_id n = record { 0 = n }

-- a link whose parts are those of another is the same
pub link_is : (a b : Link) → ((a.definition == b.definition) && ((a.from.0 == b.from.0) && (a.to.0 == b.to.0))) ≡ true → a ≡ b
link_is a b same =
    let parts = and_parts (a.definition == b.definition) ((a.from.0 == b.from.0) && (a.to.0 == b.to.0)) same in
    let ends = and_parts (a.from.0 == b.from.0) (a.to.0 == b.to.0) parts.1 in
    ap (λ (n : ℕ). link_of n a.from a.to) (eqb-true a.definition b.definition parts.0)
    ∙ ap (λ (n : ℕ). link_of b.definition (item_id n) a.to) (eqb-true a.from.0 b.from.0 ends.0)
    ∙ ap (λ (n : ℕ). link_of b.definition b.from (item_id n)) (eqb-true a.to.0 b.to.0 ends.1)

pub links_more : (links others : List Link) (place : ℕ) (link other : Link) → slice_get links place ≡ Some link →
    slice_get others place ≡ Some other → link ≡ other → take place links ≡ take place others → take (place + 1) links ≡ take (place + 1) others
links_more links others place link other at at-other same so =
    take_more_same links others place link (slice_get_within links place link at) (slice_get_within others place other at-other) so
    (get_or_from_slice_get links place link link at ∙ same ∙ sym (get_or_from_slice_get others place other link at-other))

pub links_whole : (links others : List Link) (place : ℕ) → length links ≤ place → length others ≤ place →
    take place links ≡ take place others → others ≡ links
links_whole links others place done done-other so =
    sym (take_all place others done-other) ∙ sym so ∙ take_all place links done

ids_taken : (items : List Item) (at : ℕ) (d : Item) → at < length items →
    ids_of (take (at + 1) items) ≡ ids_of (take at items) ++ (get_or items at d).id.0 ∷ []
ids_taken items at d within =
    ap ids_of (take_more items at d within) ∙ map-append (λ (i : Item). i.id.0) (take at items) (get_or items at d ∷ [])

pub ids_more : (items others : List Item) (at : ℕ) (d e : Item) → at < length items → at < length others →
    (get_or items at d).id.0 ≡ (get_or others at e).id.0 → ids_of (take at items) ≡ ids_of (take at others) →
    ids_of (take (at + 1) items) ≡ ids_of (take (at + 1) others)
ids_more items others at d e within within-other same so =
    ids_taken items at d within
    ∙ ap (λ (ids : List ℕ). ids ++ (get_or items at d).id.0 ∷ []) so
    ∙ ap (λ (id : ℕ). ids_of (take at others) ++ id ∷ []) same
    ∙ sym (ids_taken others at e within-other)

pub ids_whole : (items others : List Item) (at : ℕ) → length items ≤ at → length others ≤ at →
    ids_of (take at items) ≡ ids_of (take at others) → ids_of others ≡ ids_of items
ids_whole items others at done done-other so =
    ap ids_of (sym (take_all at others done-other)) ∙ sym so ∙ ap ids_of (take_all at items done)

-- ---- rows of the same links and ids

rows_stay : (old new : BundleParts) (upper lower : ℕ) → ((k : ℕ) → ids_at new.levels k ≡ ids_at old.levels k) → new.links ≡ old.links →
    linked_of old upper lower old.links ≡ linked_of new upper lower new.links
rows_stay old new upper lower ids links =
    ap (λ (ls : List Link). linked_of old upper lower ls) (sym links)
    ∙ ap (λ (lowers : List ℕ). map (linked_row new.links lowers) (ids_at old.levels upper)) (sym (ids lower))
    ∙ ap (map (linked_row new.links (ids_at new.levels lower))) (sym (ids upper))

-- of a level that is not marked nothing is asked
pub alike_unmarked : (marked : List Bool) (old new : List Level) (level : ℕ) (bit : Bool) → slice_get marked level ≡ Some bit → bit ≡ false →
    get_or marked level false ≡ true → ids_at new level ≡ ids_at old level
alike_unmarked marked old new level bit at off is =
    absurd (true≢false (sym is ∙ get_or_from_slice_get marked level bit false at ∙ off))

-- the marked levels so far, and one more
pub alike_more : (marked : List Bool) (old new : List Level) (n : ℕ) → ((k : ℕ) → k < n → get_or marked k false ≡ true → ids_at new k ≡ ids_at old k) →
    (get_or marked n false ≡ true → ids_at new n ≡ ids_at old n) → (k : ℕ) → k < n + 1 → get_or marked k false ≡ true → ids_at new k ≡ ids_at old k
alike_more marked old new n so here k low is = by (cases_lt k n)
  where
    by : (k < n) ⊎ (n ≤ k) → ids_at new k ≡ ids_at old k
    by (inl under) = so k under is
    by (inr over) =
        let same : k ≡ n = omega arith in
        ap (ids_at new) same ∙ here (ap (λ (j : ℕ). get_or marked j false) (sym same) ∙ is) ∙ ap (ids_at old) (sym same)

-- no level behind the last mark is marked
pub alike_whole : (marked : List Bool) (old new : List Level) (n : ℕ) → length marked ≤ n → ((k : ℕ) → k < n → get_or marked k false ≡ true → ids_at new k ≡ ids_at old k) →
    HaveSameIdsOn marked old new
alike_whole marked old new n done so k is = by (cases_lt k n)
  where
    by : (k < n) ⊎ (n ≤ k) → ids_at new k ≡ ids_at old k
    by (inl under) = so k under is
    by (inr over) =
        let past : length marked ≤ k = omega arith in
        let none : get_or marked k false ≡ false = get_or_past marked k false past in
        absurd (true≢false (sym is ∙ none))

pub same_ids : (old new : List Level) (marked : List Bool) → HaveSameIdsBut marked old new → HaveSameIdsOn marked old new →
    (k : ℕ) → ids_at new k ≡ ids_at old k
same_ids old new marked others here k =
    ⊎_elim
    (λ (h : get_or marked k false ≡ true). here k h)
    (λ (h : get_or marked k false ≡ false). others k h)
    (cases_Bool (get_or marked k false))

pub linked_stay : (old new : BundleParts) (marked : List Bool) (all : List LinkedLevels) → KeepsBundleRules new →
    HaveSameIdsBut marked old.levels new.levels → AreAlike marked old new → AreLinkedIn old all → AreLinkedIn new all
linked_stay old new marked all rules others alike linked = record {
  rules = rules;
  each = λ k one within.
      linked.each k one within
      ∙ rows_stay old new (get_or all k one).upper (get_or all k one).lower (same_ids old.levels new.levels marked others alike.ids)
      alike.links;
}

-- so is a copy of the rows
pub linked_copy : {E : Type 0} (bundle : BundleParts) (all : List LinkedLevels) (r : Result (List LinkedLevels) E) →
    IfOk r (λ made. made ≡ all) → AreLinkedIn bundle all → IfOk r (λ made. AreLinkedIn bundle made)
linked_copy bundle all (Ok made) is linked = subst (AreLinkedIn bundle) (sym is) linked
linked_copy bundle all (Err e) is linked = tt
