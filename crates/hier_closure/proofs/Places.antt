-- The places of the items that items link to: how they are put together, and what stands there.
use Rattle.std.proofs.Common.{◌≡◌, ◌⊎◌, inl, inr, ℕ, suc, ◌+◌, ◌-◌, ◌<◌, ◌≤◌, Bool, List, [], ◌∷◌, ◌++◌, length, map, take, drop, get_or, Some, Result, Ok, Err, refl, sym, ap, subst, ◌∙◌, arith}
use Rattle.std.specs.Prelude.{All, IfOk, IsSome, unwrap_or}
use Rattle.std.specs.List.{slice_get}
use Rattle.std.specs.Option.{option_map_or}
use Rattle.std.proofs.lemmas.Bool.{cases_lt}
use Rattle.std.proofs.lemmas.List.{length-append, length-drop, map-append, take_all, take_more, take-append-drop, take-append-le, drop-append-le, get_or_append_left, get_or_push, append_assoc, map_more}
use Rattle.std.proofs.lemmas.List.Elements.{All-nil, All-cons}
use Rattle.std.proofs.lemmas.Option.{get_or_from_slice_get, slice_get-get_or, slice_get_within}
use Rattle.emu_names.specs.declared.kinds.ItemId.{ItemId}
use Rattle.level_items.specs.declared.items.Item.{Item}
use Rattle.level_items.specs.Levels.{Level, ids_of}
use Rattle.link_graph.specs.Link.{children_of}
use Rattle.bundle_state.specs.Bundle.{BundleParts, level_of_id, place_of}
use Rattle.bundle_state.specs.Valid.{KeepsBundleRules}
use Rattle.bundle_state.proofs.IdLevels.{number_within}
use Rattle.hier_closure.specs.Dominance.{ids_at, closure_of, closure_row}
use Rattle.hier_closure.specs.declared.stands.LevelStands.{LevelStands}
use Rattle.hier_closure.specs.declared.stands.Stand.{Stand}
use Rattle.hier_closure.specs.Inner.Linked.{AreAlike, HaveSameIdsBut}
use Rattle.hier_closure.specs.Inner.Ranks.{AreMadeAtItem, AreMadeBelow, AreMadeBelowItem}
use Rattle.hier_closure.specs.Inner.Stands.{AddsChildren, AreChildren, AreStandsIn, AreStandsOf, IsCut, IsReady, cut, id_at, item_id, stand_id, start_at}
use Rattle.hier_closure.proofs.Ids.{Stands, level_is, some_place, stands}
use Rattle.hier_closure.proofs.Joins.{child_levels, child_more, child_row, children_row, either, is_there, made_at_child, made_at_item, whole_row}
use Rattle.hier_closure.proofs.Stay.{same_ids}

-- ---- one place

pub at_place : (bundle : BundleParts) (q n p level position : ℕ) → IsSome (level_of_id bundle.levels q) →
    some_place n p ≡ place_of bundle.levels q → level ≡ n → position ≡ p →
    slice_get (ids_at bundle.levels level) position ≡ Some q
at_place bundle q n p level position there place own spot =
    ap (λ k. slice_get (ids_at bundle.levels k) position) own ∙ ap (slice_get (ids_at bundle.levels n)) spot
    ∙ (stands bundle.levels q n p there place).at

pub standing : (bundle : BundleParts) (stand : Stand) (q : ℕ) → KeepsBundleRules bundle → id_at bundle stand ≡ Some q →
    Stands bundle.levels q stand.level stand.position
standing bundle stand q rules there =
    let level : level_of_id bundle.levels q ≡ Some stand.level =
    level_is bundle.levels stand.level q rules.apart (is_there (ids_at bundle.levels stand.level) stand.position q there) in
    record {
      level = level;
      within = number_within q bundle.levels (Some stand.level) (sym level);
      at = there;
    }

-- ---- the places of one item

-- the places of these items were put last
pub record AddsItems (bundle : BundleParts) (children : List ItemId) (old new : List Stand) : Type 0 where
  pub more : length old ≤ length new
  pub same : take (length old) new ≡ old
  pub added : map (id_at bundle) (drop (length old) new) ≡ map (λ child. Some child.0) children

drop_whole : {X : Type 0} (xs : List X) → drop (length xs) xs ≡ []
drop_whole [] = refl
drop_whole (x ∷ xs) = drop_whole xs

pub adds_none : (bundle : BundleParts) (old : List Stand) → AddsItems bundle [] old old
adds_none bundle old = record {
  more = omega arith;
  same = take_all (length old) old (omega arith);
  added = ap (map (id_at bundle)) (drop_whole old);
}

pub adds_more : (bundle : BundleParts) (children : List ItemId) (child : ItemId) (old new more : List Stand) (stand : Stand) →
    AddsItems bundle children old new → id_at bundle stand ≡ Some child.0 → more ≡ new ++ stand ∷ [] →
    AddsItems bundle (children ++ child ∷ []) old more
adds_more bundle children child old new more stand so_far there put = record {
  more = let low = so_far.more in let long = ap length put ∙ length-append new (stand ∷ []) in omega arith;
  same = ap (take (length old)) put ∙ take-append-le (length old) new (stand ∷ []) so_far.more ∙ so_far.same;
  added =
      ap (λ xs. map (id_at bundle) (drop (length old) xs)) put
      ∙ ap (map (id_at bundle)) (drop-append-le (length old) new (stand ∷ []) so_far.more)
      ∙ map-append (id_at bundle) (drop (length old) new) (stand ∷ [])
      ∙ (λ i. so_far.added i ++ there i ∷ [])
      ∙ sym (map-append (λ (c : ItemId). Some c.0) children (child ∷ []));
}

pub adds_all : (bundle : BundleParts) (item : ItemId) (children : List ItemId) (old new : List Stand) →
    AddsItems bundle children old new → children ≡ children_of item bundle.links → AddsChildren bundle item.0 old new
adds_all bundle item children old new so_far whole = record {
  more = so_far.more;
  same = so_far.same;
  added = so_far.added ∙ ap (map (λ (c : ItemId). Some c.0)) whole;
}

-- ---- the places of a level

pub stands_none : (bundle : BundleParts) (level : LevelStands) → level.starts ≡ 0 ∷ [] → level.stands ≡ [] →
    AreStandsOf bundle [] level
stands_none bundle level first none = record {
  long = ap length first;
  last = ap (λ ns. get_or ns 0 0) first ∙ sym (ap length none);
  cuts = λ i below. absurd (omega arith);
  each = λ i below. absurd (omega arith);
}

-- the places of one item more
pub stands_more : (bundle : BundleParts) (ids : List ℕ) (id n : ℕ) (now new : LevelStands) → AreStandsOf bundle ids now →
    AddsChildren bundle id now.stands new.stands → n ≡ length new.stands → new.starts ≡ now.starts ++ n ∷ [] →
    AreStandsOf bundle (ids ++ id ∷ []) new
stands_more bundle ids id n now new so_far adds count put = record {
  long = ap length put ∙ length-append now.starts (n ∷ []) ∙ (let a = so_far.long in let b = length-append ids (id ∷ []) in omega arith);
  last = ap (start_at new) (length-append ids (id ∷ [])) ∙ last_start ∙ count;
  cuts = λ i below. cut_of i (cases_lt i (length ids)) below;
  each = λ i below. each_of i (cases_lt i (length ids)) below;
}
  where
    old_start : (i : ℕ) → i < length now.starts → start_at new i ≡ start_at now i
    old_start i within = ap (λ ns. get_or ns i 0) put ∙ get_or_append_left now.starts (n ∷ []) 0 i within

    last_start : start_at new (length ids + 1) ≡ n
    last_start = ap (λ ns. get_or ns (length ids + 1) 0) put ∙ get_or_push now.starts n 0 (length ids + 1) (let e : suc (length ids) ≡ length ids + 1 = omega arith in so_far.long ∙ e)

    here : (i : ℕ) → length ids ≤ i → i < length (ids ++ id ∷ []) → i ≡ length ids
    here i from below = let b = length-append ids (id ∷ []) in omega arith

    cut_of : (i : ℕ) → (i < length ids) ⊎ (length ids ≤ i) → i < length (ids ++ id ∷ []) → IsCut new i
    cut_of i (inl before) below =
        let old = so_far.cuts i before in
        let within = old.within in let order = old.order in let end = old.end in let more = adds.more in
        let one = old_start i (omega arith) in let other = old_start (i + 1) (omega arith) in
        let long = ap length put ∙ length-append now.starts (n ∷ []) in
        record { within = omega arith; order = omega arith; end = omega arith }
    cut_of i (inr from) below =
        let at = here i from below in
        let a = so_far.long in let b = so_far.last in let more = adds.more in let whole = count in
        let long = ap length put ∙ length-append now.starts (n ∷ []) in
        let one : start_at new i ≡ length now.stands = ap (start_at new) at ∙ old_start (length ids) (omega arith) ∙ b in
        let other : start_at new (i + 1) ≡ n = ap (λ k. start_at new (k + 1)) at ∙ last_start in
        record { within = omega arith; order = omega arith; end = omega arith }

    split : new.stands ≡ now.stands ++ drop (length now.stands) new.stands
    split =
        sym (take-append-drop (length now.stands) new.stands)
        ∙ ap (λ xs. xs ++ drop (length now.stands) new.stands) adds.same

    kept : (i : ℕ) → i < length ids → cut new i ≡ cut now i
    kept i before =
        let old = so_far.cuts i before in
        let within = old.within in let order = old.order in let end = old.end in
        let one : start_at new i ≡ start_at now i = old_start i (omega arith) in
        let other : start_at new (i + 1) ≡ start_at now (i + 1) = old_start (i + 1) (omega arith) in
        let from : start_at now i ≤ length now.stands = omega arith in
        let long : length (drop (start_at now i) now.stands) ≡ length now.stands - start_at now i = length-drop (start_at now i) now.stands in
        (λ k. take (other k - one k) (drop (one k) new.stands))
        ∙ ap (λ xs. take (start_at now (i + 1) - start_at now i) (drop (start_at now i) xs)) split
        ∙ ap (take (start_at now (i + 1) - start_at now i))
        (drop-append-le (start_at now i) now.stands (drop (length now.stands) new.stands) from)
        ∙ take-append-le (start_at now (i + 1) - start_at now i) (drop (start_at now i) now.stands)
        (drop (length now.stands) new.stands) (omega arith)

    added : cut new (length ids) ≡ drop (length now.stands) new.stands
    added =
        let a = so_far.long in
        let one : start_at new (length ids) ≡ length now.stands = old_start (length ids) (omega arith) ∙ so_far.last in
        let other : start_at new (length ids + 1) ≡ length new.stands = last_start ∙ count in
        (λ k. take (other k - one k) (drop (one k) new.stands))
        ∙ take_all (length new.stands - length now.stands) (drop (length now.stands) new.stands)
        (let long = length-drop (length now.stands) new.stands in omega arith)

    each_of : (i : ℕ) → (i < length ids) ⊎ (length ids ≤ i) → i < length (ids ++ id ∷ []) →
        AreChildren bundle (get_or (ids ++ id ∷ []) i 0) (cut new i)
    each_of i (inl before) below =
        ap (map (id_at bundle)) (kept i before) ∙ so_far.each i before
        ∙ ap (λ q. map (λ (c : ItemId). Some c.0) (children_of (item_id q) bundle.links))
        (sym (get_or_append_left ids (id ∷ []) 0 i before))
    each_of i (inr from) below =
        let at = here i from below in
        ap (λ k. map (id_at bundle) (cut new k)) at ∙ ap (map (id_at bundle)) added ∙ adds.added
        ∙ ap (λ q. map (λ (c : ItemId). Some c.0) (children_of (item_id q) bundle.links))
        (sym (get_or_push ids id 0 (length ids) refl) ∙ ap (λ k. get_or (ids ++ id ∷ []) k 0) (sym at))

-- the two starts of an item are in order, and none is behind the end
pub cut_order : (level : LevelStands) (i from to : ℕ) → IsCut level i → slice_get level.starts i ≡ Some from →
    slice_get level.starts (i + 1) ≡ Some to → from ≤ to
cut_order level i from to is at next =
    let one = get_or_from_slice_get level.starts i from 0 at in let other = get_or_from_slice_get level.starts (i + 1) to 0 next in
    let order = is.order in omega arith

pub cut_end : (level : LevelStands) (i to : ℕ) → IsCut level i → slice_get level.starts (i + 1) ≡ Some to → to ≤ length level.stands
cut_end level i to is next =
    let other = get_or_from_slice_get level.starts (i + 1) to 0 next in let end = is.end in omega arith

-- the places of an item, by the two starts
pub cut_is : (level : LevelStands) (i from to : ℕ) → slice_get level.starts i ≡ Some from → slice_get level.starts (i + 1) ≡ Some to →
    take (to - from) (drop from level.stands) ≡ cut level i
cut_is level i from to at next = λ k.
    take (sym (get_or_from_slice_get level.starts (i + 1) to 0 next) k - sym (get_or_from_slice_get level.starts i from 0 at) k)
    (drop (sym (get_or_from_slice_get level.starts i from 0 at) k) level.stands)

-- ---- the places of all levels

-- those of the first levels
pub record AreStandsTo (bundle : BundleParts) (level : ℕ) (all : List LevelStands) : Type 0 where
  pub count : length all ≡ level
  pub each : (k : ℕ) (one : LevelStands) → slice_get all k ≡ Some one → AreStandsOf bundle (ids_at bundle.levels k) one

pub stood_none : (bundle : BundleParts) → AreStandsTo bundle 0 []
stood_none bundle = record { count = refl; each = λ k one at. absurd cc }

pub stood_more : (bundle : BundleParts) (level : ℕ) (all more : List LevelStands) (one : LevelStands) → AreStandsTo bundle level all →
    AreStandsOf bundle (ids_at bundle.levels level) one → more ≡ all ++ one ∷ [] → AreStandsTo bundle (level + 1) more
stood_more bundle level all more one so_far made put = record {
  count = ap length put ∙ length-append all (one ∷ []) ∙ (let a = so_far.count in omega arith);
  each = λ k other at. by k other (ap (λ xs. slice_get xs k) (sym put) ∙ at) (cases_lt k (length all));
}
  where
    by : (k : ℕ) (other : LevelStands) → slice_get (all ++ one ∷ []) k ≡ Some other → (k < length all) ⊎ (length all ≤ k) →
        AreStandsOf bundle (ids_at bundle.levels k) other
    by k other at (inl before) =
        so_far.each k other
        (slice_get-get_or all k other before
        ∙ ap (λ (x : LevelStands). Some x) (sym (get_or_append_left all (one ∷ []) other k before) ∙ get_or_from_slice_get (all ++ one ∷ []) k other other at))
    by k other at (inr from) =
        let long = length-append all (one ∷ []) in let within = slice_get_within (all ++ one ∷ []) k other at in
        let here : k ≡ length all = omega arith in
        let own : other ≡ one =
        sym (get_or_from_slice_get (all ++ one ∷ []) k other one at) ∙ get_or_push all one one k (sym here) in
        subst (λ (n : ℕ). AreStandsOf bundle (ids_at bundle.levels n) other) (sym (here ∙ so_far.count))
        (subst (AreStandsOf bundle (ids_at bundle.levels level)) (sym own) made)

pub stood_all : (bundle : BundleParts) (level : ℕ) (all : List LevelStands) → KeepsBundleRules bundle → level ≡ length bundle.levels →
    AreStandsTo bundle level all → AreStandsIn bundle all
stood_all bundle level all rules end so_far = record { rules = rules; count = so_far.count ∙ end; each = so_far.each }

-- ---- rows by places

-- what stands at the places of an item's children
pub ids_of_stands : (bundle : BundleParts) (stands : List Stand) (children : List ItemId) →
    map (id_at bundle) stands ≡ map (λ child. Some child.0) children → map (stand_id bundle) stands ≡ children
ids_of_stands bundle [] [] are = refl
ids_of_stands bundle [] (child ∷ children) are = absurd cc
ids_of_stands bundle (stand ∷ stands) [] are = absurd cc
ids_of_stands bundle (stand ∷ stands) (child ∷ children) are =
    let first : id_at bundle stand ≡ Some child.0 = cc in
    let rest : map (id_at bundle) stands ≡ map (λ (c : ItemId). Some c.0) children = cc in
    λ i. item_id (ap (λ o. unwrap_or o 0) first i) ∷ ids_of_stands bundle stands children rest i

ready_by : (bundle : BundleParts) (lower : ℕ) (table : List (List (List Bool))) (item : ItemId) (before : List ItemId) (stands : List Stand)
    (children : List ItemId) → KeepsBundleRules bundle → AreMadeBelowItem bundle lower table item.0 →
    map (id_at bundle) stands ≡ map (λ child. Some child.0) children → before ++ children ≡ children_of item bundle.links →
    All (IsReady bundle lower table) stands
ready_by bundle lower table item before [] [] rules made are whole = All-nil (IsReady bundle lower table)
ready_by bundle lower table item before [] (child ∷ children) rules made are whole = absurd cc
ready_by bundle lower table item before (stand ∷ stands) [] rules made are whole = absurd cc
ready_by bundle lower table item before (stand ∷ stands) (child ∷ children) rules made are whole =
    let first : id_at bundle stand ≡ Some child.0 = cc in
    let rest : map (id_at bundle) stands ≡ map (λ (c : ItemId). Some c.0) children = cc in
    let own : child.0 ≡ (stand_id bundle stand).0 = sym (ap (λ o. unwrap_or o 0) first) in
    All-cons (IsReady bundle lower table) stand stands
    (record {
      there = first ∙ ap (λ (q : ℕ). Some q) own;
      made = subst (λ (q : ℕ). AreMadeAtItem bundle lower table q) own
          (made_at_child bundle lower table item.0 child.0 (child_levels bundle item child before children rules whole) made);
    })
    (ready_by bundle lower table item (before ++ child ∷ []) stands children rules made rest
    (append_assoc before (child ∷ []) children ∙ whole))

pub all_ready : (bundle : BundleParts) (lower : ℕ) (table : List (List (List Bool))) (item : ItemId) (stands : List Stand) →
    KeepsBundleRules bundle → AreMadeBelowItem bundle lower table item.0 → AreChildren bundle item.0 stands →
    All (IsReady bundle lower table) stands
all_ready bundle lower table item stands rules made are =
    ready_by bundle lower table item [] stands (children_of item bundle.links) rules made are refl

-- one place more
pub place_more : (bundle : BundleParts) (lower at : ℕ) (stands : List Stand) (d : Stand) (row new : List Bool) → at < length stands →
    row ≡ children_row bundle lower (map (stand_id bundle) (take at stands)) →
    new ≡ either row (child_row bundle lower (stand_id bundle (get_or stands at d))) →
    new ≡ children_row bundle lower (map (stand_id bundle) (take (at + 1) stands))
place_more bundle lower at stands d row new within so_far step =
    child_more bundle lower (map (stand_id bundle) (take at stands)) (stand_id bundle (get_or stands at d)) row new so_far step
    ∙ ap (children_row bundle lower)
    (sym (ap (map (stand_id bundle)) (take_more stands at d within)
    ∙ map-append (stand_id bundle) (take at stands) (get_or stands at d ∷ [])))

pub row_whole : (bundle : BundleParts) (lower id : ℕ) (stands : List Stand) (row : List Bool) → AreChildren bundle id stands →
    row ≡ children_row bundle lower (map (stand_id bundle) stands) → row ≡ closure_row bundle.links (ids_at bundle.levels lower) id
row_whole bundle lower id stands row are is =
    whole_row bundle lower (item_id id) row
    (is ∙ ap (children_row bundle lower) (ids_of_stands bundle stands (children_of (item_id id) bundle.links) are))

-- the level of an id among those of a level
pub level_at : (bundle : BundleParts) (level k : ℕ) → KeepsBundleRules bundle → k < length (ids_at bundle.levels level) →
    level_of_id bundle.levels (get_or (ids_at bundle.levels level) k 0) ≡ Some level
level_at bundle level k rules within =
    let q = get_or (ids_at bundle.levels level) k 0 in
    level_is bundle.levels level q rules.apart
    (is_there (ids_at bundle.levels level) k q (slice_get-get_or (ids_at bundle.levels level) k 0 within))

-- ---- the rows of a level

pub own_of : (bundle : BundleParts) (all : List LevelStands) (level : ℕ) (own : LevelStands) → AreStandsIn bundle all →
    level < length bundle.levels → own ≡ get_or all level own → AreStandsOf bundle (ids_at bundle.levels level) own
own_of bundle all level own stands within is =
    let count = stands.count in
    stands.each level own (slice_get-get_or all level own (omega arith) ∙ ap (λ (x : LevelStands). Some x) (sym is))

pub ready_at : (bundle : BundleParts) (lower level position : ℕ) (table : List (List (List Bool))) (all : List LevelStands)
    (own : LevelStands) (children : List Stand) → AreStandsIn bundle all → AreMadeBelow bundle lower table level →
    level < length bundle.levels → own ≡ get_or all level own → position < length (ids_at bundle.levels level) →
    children ≡ cut own position → All (IsReady bundle lower table) children
ready_at bundle lower level position table all own children stands made within is here are =
    let q = get_or (ids_at bundle.levels level) position 0 in
    all_ready bundle lower table (item_id q) children stands.rules
    (made_at_item bundle lower table level q made (level_at bundle level position stands.rules here))
    (ap (map (id_at bundle)) are ∙ (own_of bundle all level own stands within is).each position here)

pub rows_more : (bundle : BundleParts) (lower level position : ℕ) (all : List LevelStands) (own : LevelStands) (children : List Stand)
    (row : List Bool) (rows more : List (List Bool)) → AreStandsIn bundle all → level < length bundle.levels →
    own ≡ get_or all level own → position < length (ids_at bundle.levels level) → children ≡ cut own position →
    row ≡ children_row bundle lower (map (stand_id bundle) children) →
    rows ≡ map (closure_row bundle.links (ids_at bundle.levels lower)) (take position (ids_at bundle.levels level)) →
    more ≡ rows ++ row ∷ [] →
    more ≡ map (closure_row bundle.links (ids_at bundle.levels lower)) (take (position + 1) (ids_at bundle.levels level))
rows_more bundle lower level position all own children row rows more stands within is here are made so_far put =
    put ∙ (λ i. so_far i ++ whole i ∷ [])
    ∙ sym (map_more (closure_row bundle.links (ids_at bundle.levels lower)) (ids_at bundle.levels level) position 0 here)
  where
    whole : row ≡ closure_row bundle.links (ids_at bundle.levels lower) (get_or (ids_at bundle.levels level) position 0)
    whole =
        row_whole bundle lower (get_or (ids_at bundle.levels level) position 0) children row
        (ap (map (id_at bundle)) are ∙ (own_of bundle all level own stands within is).each position here) made

pub rows_whole : (bundle : BundleParts) (lower level position : ℕ) (rows : List (List Bool)) →
    length (ids_at bundle.levels level) ≤ position →
    rows ≡ map (closure_row bundle.links (ids_at bundle.levels lower)) (take position (ids_at bundle.levels level)) →
    rows ≡ closure_of bundle lower level
rows_whole bundle lower level position rows past so_far =
    so_far
    ∙ ap (map (closure_row bundle.links (ids_at bundle.levels lower))) (take_all position (ids_at bundle.levels level) past)

-- ---- places that stay, where neither links nor ids change

children_stay : (old new : BundleParts) (id : ℕ) (stands : List Stand) → ((k : ℕ) → ids_at new.levels k ≡ ids_at old.levels k) →
    new.links ≡ old.links → AreChildren old id stands → AreChildren new id stands
children_stay old new id stands ids links are =
    same_places stands ∙ are ∙ ap (λ ls. map (λ (c : ItemId). Some c.0) (children_of (item_id id) ls)) (sym links)
  where
    same_places : (ss : List Stand) → map (id_at new) ss ≡ map (id_at old) ss
    same_places [] = refl
    same_places (s ∷ ss) = λ i. slice_get (ids s.level i) s.position ∷ same_places ss i

pub stands_stay : (old new : BundleParts) (marked : List Bool) (all : List LevelStands) → KeepsBundleRules new →
    length new.levels ≡ length old.levels → HaveSameIdsBut marked old.levels new.levels → AreAlike marked old new →
    AreStandsIn old all → AreStandsIn new all
stands_stay old new marked all rules count others alike stands = record {
  rules = rules;
  count = stands.count ∙ sym count;
  each = λ k one at.
      let own = stands.each k one at in
      let ids = same_ids old.levels new.levels marked others alike.ids in
      subst (λ (qs : List ℕ). AreStandsOf new qs one) (sym (ids k))
      (record {
        long = own.long;
        last = own.last;
        cuts = own.cuts;
        each = λ i below. children_stay old new (get_or (ids_at old.levels k) i 0) (cut one i) ids alike.links (own.each i below);
      });
}

pub stands_copy : {E : Type 0} (bundle : BundleParts) (all : List LevelStands) (r : Result (List LevelStands) E) →
    IfOk r (λ made. made ≡ all) → AreStandsIn bundle all → IfOk r (λ made. AreStandsIn bundle made)
stands_copy bundle all (Ok made) is stands = subst (AreStandsIn bundle) (sym is) stands
stands_copy bundle all (Err e) is stands = tt

-- ---- the places of a level, item by item

pub level_more : (bundle : BundleParts) (items : List Item) (at : ℕ) (item : Item) (n : ℕ) (now new : LevelStands) → at < length items →
    item ≡ get_or items at item → AreStandsOf bundle (ids_of (take at items)) now → AddsChildren bundle item.id.0 now.stands new.stands →
    n ≡ length new.stands → new.starts ≡ now.starts ++ n ∷ [] → AreStandsOf bundle (ids_of (take (at + 1) items)) new
level_more bundle items at item n now new within is so_far adds count put =
    subst (λ (ids : List ℕ). AreStandsOf bundle ids new)
    (sym (ap ids_of (take_more items at item within ∙ ap (λ (x : Item). take at items ++ x ∷ []) (sym is))
    ∙ map-append (λ (i : Item). i.id.0) (take at items) (item ∷ [])))
    (stands_more bundle (ids_of (take at items)) item.id.0 n now new so_far adds count put)

pub level_done : (bundle : BundleParts) (n : ℕ) (level : Level) (items : List Item) (at : ℕ) (own : LevelStands) →
    slice_get bundle.levels n ≡ Some level → items ≡ level.items → length items ≤ at → AreStandsOf bundle (ids_of (take at items)) own →
    AreStandsOf bundle (ids_at bundle.levels n) own
level_done bundle n level items at own here same past so_far =
    subst (λ (ids : List ℕ). AreStandsOf bundle ids own)
    (ap ids_of (take_all at items past ∙ same)
    ∙ sym (ap (λ o. option_map_or (λ (l : Level). ids_of l.items) o []) here))
    so_far
