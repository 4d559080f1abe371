-- The level rule, and the marks, after a change of a level.
use Rattle.std.proofs.Common.{◌≡◌, ℕ, zero, suc, ◌+◌, ◌<◌, ◌-◌, get_or, Bool, true, false, not, ◌&&◌, ◌||◌, cond, List, [], ◌∷◌, ◌++◌, length, take, drop, nat_eq, refl, sym, ap, subst, ◌∙◌, Option, Some, None, Result, add-one, length-drop, arith}
use Rattle.std.specs.List.{list_any, list_all, slice_get, slice_set}
use Rattle.std.proofs.lemmas.Bool.{and_parts, and_from, eqb-true}
use Rattle.std.proofs.lemmas.List.{append-nil, map-append, take_all, take_more}
use Rattle.emu_names.specs.declared.kinds.LevelKind.{LevelKind}
use Rattle.emu_names.specs.declared.kinds.LevelKind.TheVariants as kinds
use Rattle.emu_names.specs.declared.kinds.ItemId.{ItemId}
use Rattle.emu_names.specs.declared.rules.Broken.{Broken}
use Rattle.level_items.specs.declared.times.Time.{Time}
use Rattle.level_items.specs.declared.items.Item.{Item}
use Rattle.level_items.specs.Times.{is_before}
use Rattle.level_items.specs.Levels.{level_of, KeepsLevelRule, ids_of, are_different, fits_level, is_before_first, are_apart, are_in_order, first_of, last_of, change_at, relabelled}
use Rattle.emu_names.specs.declared.rules.Fault.{Fault}
use Rattle.emu_names.specs.Inner.Gives.{FindsFault}
use Rattle.level_items.specs.Faults.{retime_fault, time_fault, order_rule, behind_fault, ahead_fault, neighbour_fault}
use Rattle.std.specs.Option.{option_or}
use Rattle.level_items.proofs.Lists.{any_parts, all_parts, different_with, different_without}
use Rattle.level_items.proofs.Apart.{ends_before, split, halves, join, join_with, across}

-- ---- no fault

pub or_none : (a b : Option Broken) → option_or a b ≡ None → (a ≡ None) × (b ≡ None)
or_none None b h = (refl, h)
or_none (Some rule) b h = absurd cc

-- out of order is a fault on levels of this kind
abbrev pub IsTimed : LevelKind → Type 0
IsTimed kind = (id : ItemId) → order_rule kind id ≡ None → ⊥

pub passed : (t : Bool) (rule : Option Broken) → (rule ≡ None → ⊥) → cond t None rule ≡ None → t ≡ true
passed true rule some h = refl
passed false rule some h = absurd (some h)

pub behind_free : (kind : LevelKind) → IsTimed kind → (previous : Option Item) (t : Time) → behind_fault kind previous t ≡ None → ends_before previous t ≡ true
behind_free kind timed None t h = refl
behind_free kind timed (Some item) t h = passed (is_before item.time t) (order_rule kind item.id) (timed item.id) h

pub ahead_free : (kind : LevelKind) → IsTimed kind → (t : Time) (items : List Item) → ahead_fault kind t (first_of items) ≡ None → is_before_first t items ≡ true
ahead_free kind timed t [] h = refl
ahead_free kind timed t (item ∷ items) h = passed (is_before t item.time) (order_rule kind item.id) (timed item.id) h

apart_with : (kind : LevelKind) → IsTimed kind → (xs : List Item) (x : Item) (ys : List Item) →
    are_apart (xs ++ ys) ≡ true → neighbour_fault kind xs x.time ys ≡ None → are_apart (xs ++ x ∷ ys) ≡ true
apart_with kind timed xs x ys order free =
    let sides = or_none (behind_fault kind (last_of xs) x.time) (ahead_fault kind x.time (first_of ys)) free in
    let parts = halves xs ys order in
    join_with xs x ys (record {
      front = parts.0;
      behind = behind_free kind timed (last_of xs) x.time sides.0;
      ahead = ahead_free kind timed x.time ys sides.1;
      back = parts.1;
    })

apart_without : (xs : List Item) (x : Item) (ys : List Item) → are_apart (xs ++ x ∷ ys) ≡ true → are_apart (xs ++ ys) ≡ true
apart_without xs x ys order =
    let s = split xs x ys order in
    join xs ys s.front (across (last_of xs) x.time ys s.behind s.ahead) s.back

pub order_with : (kind : LevelKind) (xs : List Item) (x : Item) (ys : List Item) →
    are_in_order kind (xs ++ ys) ≡ true → neighbour_fault kind xs x.time ys ≡ None → are_in_order kind (xs ++ x ∷ ys) ≡ true
order_with kinds.Item xs x ys order free = refl
order_with kinds.Segment xs x ys order free = apart_with kinds.Segment (λ id e. cc) xs x ys order free
order_with kinds.Event xs x ys order free = apart_with kinds.Event (λ id e. cc) xs x ys order free

pub order_without : (kind : LevelKind) (xs : List Item) (x : Item) (ys : List Item) → are_in_order kind (xs ++ x ∷ ys) ≡ true → are_in_order kind (xs ++ ys) ≡ true
order_without kinds.Item xs x ys order = refl
order_without kinds.Segment xs x ys order = apart_without xs x ys order
order_without kinds.Event xs x ys order = apart_without xs x ys order

-- another item of the same time
apart_same : (xs : List Item) (x y : Item) (ys : List Item) → y.time ≡ x.time → are_apart (xs ++ x ∷ ys) ≡ true → are_apart (xs ++ y ∷ ys) ≡ true
apart_same xs x y ys same order =
    let s = split xs x ys order in
    join_with xs y ys (record {
      front = s.front;
      behind = ap (ends_before (last_of xs)) same ∙ s.behind;
      ahead = ap (λ t. is_before_first t ys) same ∙ s.ahead;
      back = s.back;
    })

pub order_same : (kind : LevelKind) (xs : List Item) (x y : Item) (ys : List Item) → y.time ≡ x.time → are_in_order kind (xs ++ x ∷ ys) ≡ true → are_in_order kind (xs ++ y ∷ ys) ≡ true
order_same kinds.Item xs x y ys same order = refl
order_same kinds.Segment xs x y ys same order = apart_same xs x y ys same order
order_same kinds.Event xs x y ys same order = apart_same xs x y ys same order

-- ---- the rule with an item more, and without one

pub ids_parts : (xs : List Item) (x : Item) (ys : List Item) → ids_of (xs ++ x ∷ ys) ≡ ids_of xs ++ x.id.0 ∷ ids_of ys
ids_parts xs x ys = map-append (λ (i : Item). i.id.0) xs (x ∷ ys)

pub ids_joined : (xs ys : List Item) → ids_of (xs ++ ys) ≡ ids_of xs ++ ids_of ys
ids_joined xs ys = map-append (λ (i : Item). i.id.0) xs ys

pub rule_with : (kind : LevelKind) (attributes : ℕ) (xs : List Item) (x : Item) (ys : List Item) →
    KeepsLevelRule (level_of kind attributes (xs ++ ys)) →
    list_any (nat_eq x.id.0) (ids_of (xs ++ ys)) ≡ false →
    fits_level kind attributes x ≡ true →
    are_in_order kind (xs ++ x ∷ ys) ≡ true →
    KeepsLevelRule (level_of kind attributes (xs ++ x ∷ ys))
rule_with kind attributes xs x ys rule fresh fits order = record {
  distinct = ap are_different (ids_parts xs x ys)
      ∙ different_with (ids_of xs) x.id.0 (ids_of ys) (ap are_different (sym (ids_joined xs ys)) ∙ rule.distinct)
      (ap (list_any (nat_eq x.id.0)) (sym (ids_joined xs ys)) ∙ fresh);
  fitting = all_parts (fits_level kind attributes) xs x ys ∙ and_from _ _ fits rule.fitting;
  ordered = order;
}

pub record IsWithout (kind : LevelKind) (attributes : ℕ) (xs : List Item) (x : Item) (ys : List Item) : Type 0 where
  pub rule : KeepsLevelRule (level_of kind attributes (xs ++ ys))
  pub fresh : list_any (nat_eq x.id.0) (ids_of (xs ++ ys)) ≡ false
  pub fits : fits_level kind attributes x ≡ true

pub rule_without : (kind : LevelKind) (attributes : ℕ) (xs : List Item) (x : Item) (ys : List Item) →
    KeepsLevelRule (level_of kind attributes (xs ++ x ∷ ys)) → IsWithout kind attributes xs x ys
rule_without kind attributes xs x ys rule =
    let ids = different_without (ids_of xs) x.id.0 (ids_of ys) (ap are_different (sym (ids_parts xs x ys)) ∙ rule.distinct) in
    let all = and_parts (fits_level kind attributes x) (list_all (fits_level kind attributes) (xs ++ ys)) (sym (all_parts (fits_level kind attributes) xs x ys) ∙ rule.fitting) in
    record {
      rule = record {
        distinct = ap are_different (ids_joined xs ys) ∙ ids.0;
        fitting = all.1;
        ordered = order_without kind xs x ys rule.ordered;
      };
      fresh = ap (list_any (nat_eq x.id.0)) (ids_joined xs ys) ∙ ids.1;
      fits = all.0;
    }

-- ---- the marks

-- each id that is asked for, in a list about an item
pub any_id : (q : ℕ) (xs : List Item) (x : Item) (ys : List Item) → list_any (nat_eq q) (ids_of (xs ++ x ∷ ys)) ≡ (nat_eq q x.id.0 || list_any (nat_eq q) (ids_of (xs ++ ys)))
any_id q xs x ys =
    ap (list_any (nat_eq q)) (ids_parts xs x ys) ∙ any_parts (nat_eq q) (ids_of xs) x.id.0 (ids_of ys)
    ∙ ap (λ zs. nat_eq q x.id.0 || list_any (nat_eq q) zs) (sym (ids_joined xs ys))

-- one item more is marked
pub marked_next : (q : ℕ) (items : List Item) (i : ℕ) (x : Item) (was : Bool) → i < length items → x ≡ get_or items i x →
    was ≡ list_any (nat_eq q) (ids_of (take i items)) →
    (nat_eq q x.id.0 || was) ≡ list_any (nat_eq q) (ids_of (take (i + 1) items))
marked_next q items i x was low at is =
    ap (λ (b : Bool). nat_eq q x.id.0 || b) is
    ∙ ap (λ (xs : List Item). nat_eq q x.id.0 || list_any (nat_eq q) (ids_of xs)) (sym (append-nil (take i items)))
    ∙ sym (any_id q (take i items) x [])
    ∙ ap (λ (xs : List Item). list_any (nat_eq q) (ids_of xs))
    (sym (take_more items i x low ∙ ap (λ (y : Item). take i items ++ y ∷ []) (sym at)))

pub without_id : (q n : ℕ) (ns : List ℕ) (was : Bool) → list_any (nat_eq n) ns ≡ false → was ≡ (nat_eq q n || list_any (nat_eq q) ns) → (not (nat_eq q n) && was) ≡ list_any (nat_eq q) ns
without_id q n ns was fresh is = by_test (nat_eq q n) refl
  where
    by_test : (t : Bool) → nat_eq q n ≡ t → (not (nat_eq q n) && was) ≡ list_any (nat_eq q) ns
    by_test true e =
        let same : q ≡ n = eqb-true q n e in
        ap (λ b. not b && was) e ∙ sym (ap (λ m. list_any (nat_eq m) ns) same ∙ fresh)
    by_test false e = ap (λ b. not b && was) e ∙ is ∙ ap (λ b. b || list_any (nat_eq q) ns) e

pub again : (t rest : Bool) → (t || (t || rest)) ≡ (t || rest)
again true rest = refl
again false rest = refl

-- ---- an item changed at its place

pub set_is_change : (f : Item → Item) (items : List Item) (i : ℕ) (d y : Item) → i < length items → y ≡ f (get_or items i d) → slice_set items i y ≡ change_at f i items
set_is_change f [] i d y within is = absurd (omega arith)
set_is_change f (z ∷ items) zero d y within is = ap (λ u. u ∷ items) is
set_is_change f (z ∷ items) (suc i) d y within is = ap (λ us. z ∷ us) (set_is_change f items i d y (omega arith) is)

pub relabelled_is : (attribute : ℕ) (label : List ℕ) (item : Item) (labels : List (List ℕ)) → labels ≡ slice_set item.labels attribute label →
    let changed : Item = record { id = item.id; time = item.time; labels = labels } in changed ≡ relabelled attribute label item
relabelled_is attribute label item labels is = λ i. record { id = item.id; time = item.time; labels = is i }

-- ---- a time between its neighbours

pub retime_tested : (A : Type 0) (kind : LevelKind) (items : List Item) (p : ℕ) (time : Time) (r : Result A Fault) → time_fault kind time ≡ None →
    FindsFault r (neighbour_fault kind (take p items) time (take (length items - (p + 1)) (drop (p + 1) items))) → FindsFault r (retime_fault kind items p time)
retime_tested A kind items p time r fits h =
    let rest : take (length items - (p + 1)) (drop (p + 1) items) ≡ drop (suc p) items =
    take_all (length items - (p + 1)) (drop (p + 1) items) (omega (arith, length-drop (p + 1) items)) ∙ ap (λ n. drop n items) (add-one p) in
    let sides = ap (λ zs. neighbour_fault kind (take p items) time zs) rest in
    let whole : neighbour_fault kind (take p items) time (take (length items - (p + 1)) (drop (p + 1) items)) ≡ retime_fault kind items p time =
    sides ∙ sym (ap (λ o. option_or o (neighbour_fault kind (take p items) time (drop (suc p) items))) fits) in
    subst (FindsFault r) whole h

-- ---- the last item before a place

pub last_at : (items : List Item) → last_of items ≡ slice_get items (length items - 1)
last_at [] = refl
last_at (x ∷ []) = refl
last_at (x ∷ y ∷ items) = last_at (y ∷ items) ∙ ap (slice_get (x ∷ y ∷ items)) (one_more (length items))
  where
    one_more : (n : ℕ) → suc (suc n - 1) ≡ suc (suc n) - 1
    one_more n = omega arith
