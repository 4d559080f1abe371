-- Changes are refused exactly where the level rule would be broken, and places split a level.
use Rattle.std.proofs.Common.{◌≡◌, ℕ, suc, ◌+◌, ◌<◌, Bool, true, false, not, cond, List, [], ◌∷◌, ◌++◌, length, take, drop, get_or, nat_eq, count_by, refl, sym, ap, subst, ◌∙◌, Option, Some, None, arith}
use Rattle.std.specs.List.{list_any, slice_get, filter, insert}
use Rattle.std.specs.List.Sorted.{IsPartitionedBy}
use Rattle.std.proofs.lemmas.Bool.{cond-true, cond-false, false_from_ne_true}
use Rattle.std.proofs.lemmas.List.{take-append-drop}
use Rattle.std.proofs.lemmas.List.Sums.{sum_by-cons}
use Rattle.std.proofs.lemmas.List.Sorted.{IsPartitionedBy-ltb}
use Rattle.emu_names.specs.declared.kinds.LevelKind.{LevelKind}
use Rattle.emu_names.specs.declared.kinds.LevelKind.TheVariants as kinds
use Rattle.emu_names.specs.declared.kinds.ItemId.{ItemId}
use Rattle.emu_names.specs.declared.rules.Broken.{Broken}
use Rattle.emu_names.specs.declared.rules.Broken.TheVariants as rules
use Rattle.level_items.specs.declared.times.Time.{Time}
use Rattle.level_items.specs.declared.items.Item.{Item}
use Rattle.level_items.specs.Times.{first_sample, fits_kind, ends_in_time, is_before, starts_before}
use Rattle.level_items.specs.Levels.{level_of, KeepsLevelRule, ids_of, is_before_first, are_apart, are_in_order, first_of, last_of, new_place, change_at, retimed}
use Rattle.level_items.specs.Faults.{time_fault, position_fault, order_rule, order_fault, behind_fault, ahead_fault, neighbour_fault, insert_fault, retime_fault}
use Rattle.std.specs.Option.{option_or}
use Rattle.level_items.specs.Laws.{InsertRefusesExactly, RetimeRefusesExactly, PlaceSplitsItems}
use Rattle.level_items.proofs.Apart.{split, ends_before, starts_rise}
use Rattle.level_items.proofs.Rules.{rule_without}
use Rattle.level_items.proofs.Changes.{change_around, parts_of_fit, insert_rule, retime_rule}

-- ---- no fault, from the rule

or_nothing : (a b : Option Broken) → a ≡ None → b ≡ None → option_or a b ≡ None
or_nothing a b p q = ap (λ o. option_or o b) p ∙ q

id_none : (taken : Bool) (rule : Broken) (rest : Option Broken) → taken ≡ false → rest ≡ None → cond taken (Some rule) rest ≡ None
id_none taken rule rest p q = cond-false taken (Some rule) rest p ∙ q

time_none : (kind : LevelKind) (time : Time) → fits_kind kind time ≡ true → ends_in_time time ≡ true → time_fault kind time ≡ None
time_none kind time form end =
    ap (λ b. cond (not b) (Some rules.TimeKind) (cond (not (ends_in_time time)) (Some rules.TimeOut) None)) form
    ∙ ap (λ b. cond (not b) (Some rules.TimeOut) None) end

order_none : (kind : LevelKind) (named : ItemId) (a b : Time) → is_before a b ≡ true → order_fault kind named a b ≡ None
order_none kind named a b before = cond-true (is_before a b) None (order_rule kind named) before

behind_none : (kind : LevelKind) (previous : Option Item) (t : Time) → ends_before previous t ≡ true → behind_fault kind previous t ≡ None
behind_none kind None t h = refl
behind_none kind (Some item) t h = order_none kind item.id item.time t h

ahead_none : (kind : LevelKind) (t : Time) (items : List Item) → is_before_first t items ≡ true → ahead_fault kind t (first_of items) ≡ None
ahead_none kind t [] h = refl
ahead_none kind t (item ∷ items) h = order_none kind item.id t item.time h

apart_none : (kind : LevelKind) (xs : List Item) (x : Item) (ys : List Item) → are_apart (xs ++ x ∷ ys) ≡ true → neighbour_fault kind xs x.time ys ≡ None
apart_none kind xs x ys order =
    let s = split xs x ys order in
    or_nothing _ _ (behind_none kind (last_of xs) x.time s.behind) (ahead_none kind x.time ys s.ahead)

free_item : (b : Bool) → cond {A = Option Broken} b None None ≡ None
free_item true = refl
free_item false = refl

item_none : (xs : List Item) (t : Time) (ys : List Item) → neighbour_fault kinds.Item xs t ys ≡ None
item_none xs t ys = or_nothing _ _ (behind (last_of xs)) (ahead ys)
  where
    behind : (previous : Option Item) → behind_fault kinds.Item previous t ≡ None
    behind None = refl
    behind (Some item) = free_item (is_before item.time t)

    ahead : (items : List Item) → ahead_fault kinds.Item t (first_of items) ≡ None
    ahead [] = refl
    ahead (item ∷ items) = free_item (is_before t item.time)

neighbours_none : (kind : LevelKind) (xs : List Item) (x : Item) (ys : List Item) → are_in_order kind (xs ++ x ∷ ys) ≡ true → neighbour_fault kind xs x.time ys ≡ None
neighbours_none kinds.Item xs x ys order = item_none xs x.time ys
neighbours_none kinds.Segment xs x ys order = apart_none kinds.Segment xs x ys order
neighbours_none kinds.Event xs x ys order = apart_none kinds.Event xs x ys order

-- ---- exactly

insert_free : (kind : LevelKind) (attributes : ℕ) (items : List Item) (position : Option ℕ) (item : Item) →
    position_fault kind (length items) position ≡ None → KeepsLevelRule (level_of kind attributes (insert items (new_place kind items position item.time) item)) →
    insert_fault kind items position item ≡ None
insert_free kind attributes items position item free rule =
    let at = new_place kind items position item.time in
    let whole = take-append-drop at items in
    let without = rule_without kind attributes (take at items) item (drop at items) rule in
    let fit = parts_of_fit kind attributes item without.fits in
    id_none (list_any (nat_eq item.id.0) (ids_of items)) (rules.IdTaken item.id) _
    (ap (λ zs. list_any (nat_eq item.id.0) (ids_of zs)) (sym whole) ∙ without.fresh)
    (or_nothing _ _ (time_none kind item.time fit.form fit.end)
    (or_nothing _ _ free (neighbours_none kind (take at items) item (drop at items) rule.ordered)))

retime_free : (kind : LevelKind) (attributes : ℕ) (items : List Item) (position : ℕ) (item : Item) (time : Time) → slice_get items position ≡ Some item →
    KeepsLevelRule (level_of kind attributes (change_at (retimed time) position items)) → retime_fault kind items position time ≡ None
retime_free kind attributes items position item time at rule =
    let before = take position items in
    let behind = drop (suc position) items in
    let about = subst (λ zs. KeepsLevelRule (level_of kind attributes zs)) (change_around (retimed time) position items item at) rule in
    let fit = parts_of_fit kind attributes (retimed time item) (rule_without kind attributes before (retimed time item) behind about).fits in
    or_nothing _ _ (time_none kind time fit.form fit.end) (neighbours_none kind before (retimed time item) behind about.ordered)

pub insert_exact : InsertRefusesExactly
insert_exact kind attributes items position item rule labels = (
  λ free. insert_rule kind attributes items position (new_place kind items position item.time) item rule free refl labels,
  λ both. insert_free kind attributes items position item both.0 both.1,
)

pub retime_exact : RetimeRefusesExactly
retime_exact kind attributes items position item time rule at =
    (λ free. retime_rule kind attributes items position item time rule at free, λ keeps. retime_free kind attributes items position item time at keeps)

-- ---- the place

all_fail : {A : Type 0} (p : A → Bool) (xs : List A) → ((k : ℕ) (d : A) → k < length xs → p (get_or xs k d) ≡ false) →
    (count_by p xs ≡ 0) × (filter p xs ≡ []) × (filter (λ x. not (p x)) xs ≡ xs)
all_fail p [] none = (refl, refl, refl)
all_fail p (x ∷ xs) none =
    let here = none 0 x (omega arith) in
    let rest = all_fail p xs (λ k d low. none (suc k) d (omega arith)) in (
      sum_by-cons (λ y. cond (p y) 1 0) x xs ∙ ap (λ b. cond b 1 0 + count_by p xs) here ∙ ap (λ n. 0 + n) rest.0,
      cond-false (p x) (x ∷ filter p xs) (filter p xs) here ∙ rest.1,
      ap (λ b. cond (not b) (x ∷ filter (λ y. not (p y)) xs) (filter (λ y. not (p y)) xs)) here ∙ ap (λ ys. x ∷ ys) rest.2,
    )

abbrev SplitsAtCount : {A : Type 0} → (A → Bool) → List A → Type 0
SplitsAtCount p xs = (take (count_by p xs) xs ≡ filter p xs) × (drop (count_by p xs) xs ≡ filter (λ x. not (p x)) xs)

one_more : (n : ℕ) → 1 + n ≡ suc n
one_more n = omega arith

split_pass : {A : Type 0} (p : A → Bool) (x : A) (xs : List A) → p x ≡ true → SplitsAtCount p xs → SplitsAtCount p (x ∷ xs)
split_pass p x xs here rest =
    let count : count_by p (x ∷ xs) ≡ suc (count_by p xs) =
    sum_by-cons (λ y. cond (p y) 1 0) x xs ∙ ap (λ b. cond b 1 0 + count_by p xs) here ∙ one_more (count_by p xs) in (
      ap (λ n. take n (x ∷ xs)) count ∙ ap (λ ys. x ∷ ys) rest.0 ∙ sym (cond-true (p x) (x ∷ filter p xs) (filter p xs) here),
      ap (λ n. drop n (x ∷ xs)) count ∙ rest.1 ∙ sym (ap (λ b. cond (not b) (x ∷ filter (λ y. not (p y)) xs) (filter (λ y. not (p y)) xs)) here),
    )

split_fail : {A : Type 0} (p : A → Bool) (x : A) (xs : List A) → p x ≡ false → IsPartitionedBy p (x ∷ xs) → SplitsAtCount p (x ∷ xs)
split_fail p x xs here parted =
    let clash : p x ≡ true → ⊥ = λ passes. cc in
    let none = all_fail p (x ∷ xs) (λ k d low. false_from_ne_true (p (get_or (x ∷ xs) k d)) (λ passes. clash (parted 0 k d (omega arith) low passes))) in
    (ap (λ n. take n (x ∷ xs)) none.0 ∙ sym none.1, ap (λ n. drop n (x ∷ xs)) none.0 ∙ sym none.2)

split_either : {A : Type 0} (p : A → Bool) (x : A) (xs : List A) (b : Bool) → p x ≡ b → IsPartitionedBy p (x ∷ xs) → SplitsAtCount p xs → SplitsAtCount p (x ∷ xs)
split_either p x xs true here parted rest = split_pass p x xs here rest
split_either p x xs false here parted rest = split_fail p x xs here parted

-- a test that no element passes behind one that fails splits a list at its count
parts_of_filter : {A : Type 0} (p : A → Bool) (xs : List A) → IsPartitionedBy p xs → SplitsAtCount p xs
parts_of_filter p [] parted = (refl, refl)
parts_of_filter p (x ∷ xs) parted =
    split_either p x xs (p x) refl parted (parts_of_filter p xs (λ i j d order within passes. parted (suc i) (suc j) d (omega arith) (omega arith) passes))

by_time : (items : List Item) (time : Time) → are_apart items ≡ true →
    (take (count_by (λ i. starts_before i.time time) items) items ≡ filter (λ i. starts_before i.time time) items)
    × (drop (count_by (λ i. starts_before i.time time) items) items ≡ filter (λ i. not (starts_before i.time time)) items)
by_time items time order =
    parts_of_filter (λ i. starts_before i.time time) items
    (IsPartitionedBy-ltb (λ (i : Item). first_sample i.time) items (first_sample time) (λ i j d low within. starts_rise items i j d order low within))

pub place_splits : PlaceSplitsItems
place_splits kinds.Item items position time timed order = absurd (timed refl)
place_splits kinds.Segment items position time timed order = by_time items time order
place_splits kinds.Event items position time timed order = by_time items time order
