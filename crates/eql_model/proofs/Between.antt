-- The rows of a closure in terms of the items of its two levels.
use Rattle.std.proofs.Common.{◌≡◌, ℕ, ◌+◌, ◌<◌, Bool, true, false, cond, ◌||◌, ◌&&◌, List, [], ◌∷◌, length, map, get_or, Option, None, Some, Result, Ok, Err, refl, sym, ap, subst, ◌∙◌, arith}
use Rattle.std.specs.Prelude.{All, IfOk, not, count_by}
use Rattle.std.specs.List.{slice_get, items_where_true, filter, list_any, range_with_len}
use Rattle.std.specs.Option.{option_map_or}
use Rattle.std.proofs.lemmas.List.{length-map, get_or-map}
use Rattle.std.proofs.lemmas.List.Elements.{All-map, All-nil, All-cons}
use Rattle.std.proofs.lemmas.List.FromFn.{fill_by_all}
use Rattle.std.proofs.lemmas.List.Sums.{length-filter, sum_by-cons}
use Rattle.emu_names.specs.declared.shortage.Memory.{Memory}
use Rattle.level_items.specs.declared.items.Item.{Item}
use Rattle.level_items.specs.Levels.{Level, ids_of, items_at}
use Rattle.link_graph.specs.declared.link.Link.{Link}
use Rattle.bundle_state.specs.Bundle.{BundleParts}
use Rattle.hier_closure.specs.Dominance.{dominates, ids_at, closure_row, closure_rows, closure_of}
use Rattle.eql_syntax.specs.declared.query.Compare.{Compare}
use Rattle.eql_syntax.specs.declared.query.Place.{Place}
use Rattle.eql_rows.specs.Inner.Flags.{flag_at}
use Rattle.eql_model.specs.Positions.{stands, makes_stand, has_place, has_number, compares}
use Rattle.eql_model.specs.Inner.Bits.{row_stands, rows_place, row_counts}
use Rattle.eql_model.proofs.MadeRows.{flag_of_map, no_item}

-- ---- levels

ids_by : (o : Option Level) → option_map_or (λ level. ids_of level.items) o [] ≡ ids_of (option_map_or (λ level. level.items) o [])
ids_by None = refl
ids_by (Some level) = refl

pub ids_are : (levels : List Level) (n : ℕ) → ids_at levels n ≡ ids_of (items_at levels n)
ids_are levels n = ids_by (slice_get levels n)

pub items_are : (levels : List Level) (n : ℕ) (level : Level) → slice_get levels n ≡ Some level → level.items ≡ items_at levels n
items_are levels n level there = sym (ap (λ o. option_map_or (λ (l : Level). l.items) o []) there)

pub ids_count : (levels : List Level) (n : ℕ) → length (items_at levels n) ≡ length (ids_at levels n)
ids_count levels n = sym (ap length (ids_are levels n) ∙ length-map (items_at levels n) (λ (i : Item). i.id.0))

-- ---- how many rows there are, and how wide they are

pub rows_count : (b : BundleParts) (lower upper : ℕ) → length (closure_of b lower upper) ≡ length (items_at b.levels upper)
rows_count b lower upper =
    length-map (ids_at b.levels upper) (closure_row b.links (ids_at b.levels lower)) ∙ sym (ids_count b.levels upper)

all_of : {X : Type 0} (P : X → Type 0) → ((x : X) → P x) → (xs : List X) → All P xs
all_of P each xs = All-from_get_or-every P each xs
  where
    All-from_get_or-every : {X : Type 0} (P : X → Type 0) → ((x : X) → P x) → (xs : List X) → All P xs
    All-from_get_or-every P each [] = All-nil P
    All-from_get_or-every P each (x ∷ xs) = All-cons P x xs (each x) (All-from_get_or-every P each xs)

pub rows_wide : (b : BundleParts) (lower upper : ℕ) → All (λ row. length row ≡ length (items_at b.levels lower)) (closure_of b lower upper)
rows_wide b lower upper =
    All-map (λ row. length row ≡ length (items_at b.levels lower)) (closure_row b.links (ids_at b.levels lower)) (ids_at b.levels upper)
    (all_of (λ a. length (closure_row b.links (ids_at b.levels lower) a) ≡ length (items_at b.levels lower))
    (λ a. length-map (ids_at b.levels lower) (dominates b.links a) ∙ sym (ids_count b.levels lower)) (ids_at b.levels upper))

-- ---- a filter by a row

kept_by : {X : Type 0} (b : Bool) (x : X) (xs ys : List X) (row : List Bool) → ys ≡ items_where_true row xs →
    cond b (x ∷ ys) ys ≡ items_where_true (b ∷ row) (x ∷ xs)
kept_by true x xs ys row e = ap (λ zs. x ∷ zs) e
kept_by false x xs ys row e = e

pub filter_is : {X : Type 0} (p : X → Bool) (xs : List X) → filter p xs ≡ items_where_true (map p xs) xs
filter_is p [] = refl
filter_is p (x ∷ xs) = kept_by (p x) x xs (filter p xs) (map p xs) (filter_is p xs)

any_same : {X Y : Type 0} (p : Y → Bool) (f : X → Y) (q : X → Bool) → ((x : X) → p (f x) ≡ q x) → (xs : List X) →
    list_any p (map f xs) ≡ list_any q xs
any_same p f q same [] = refl
any_same p f q same (x ∷ xs) = λ i. same x i || any_same p f q same xs i

stands_by_row : (links : List Link) (ids : List ℕ) (place : Place) (at a : ℕ) → at < length ids →
    row_stands ids place at (closure_row links ids a) ≡ makes_stand links ids place (get_or ids at 0) a
stands_by_row links ids place at a h =
    λ i. flag_of_map (dominates links a) ids at 0 h i && stands place (sym (filter_is (dominates links a) ids) i) (get_or ids at 0)

place_by_rows : (links : List Link) (uppers ids : List ℕ) (place : Place) (wanted : Bool) (at : ℕ) → at < length ids →
    rows_place (closure_rows links ids uppers) ids place wanted at ≡ has_place links uppers ids place wanted (get_or ids at 0)
place_by_rows links uppers ids place true at h =
    any_same (row_stands ids place at) (closure_row links ids) (makes_stand links ids place (get_or ids at 0))
    (λ a. stands_by_row links ids place at a h) uppers
place_by_rows links uppers ids place false at h = λ i.
    any_same (flag_at at) (closure_row links ids) (λ a. dominates links a (get_or ids at 0))
    (λ a. flag_of_map (dominates links a) ids at 0 h) uppers i
    && not (any_same (row_stands ids place at) (closure_row links ids) (makes_stand links ids place (get_or ids at 0))
    (λ a. stands_by_row links ids place at a h) uppers i)

-- the flags by position are those by item
pub place_flags_are : (links : List Link) (uppers ids : List ℕ) (items : List Item) (place : Place) (wanted : Bool) → ids ≡ ids_of items →
    map (rows_place (closure_rows links ids uppers) (ids_of items) place wanted) (range_with_len 0 (length items))
    ≡ map (λ item. has_place links uppers ids place wanted item.id.0) items
place_flags_are links uppers ids items place wanted e =
    sym (fill_by_all (rows_place (closure_rows links ids uppers) (ids_of items) place wanted)
    (map (λ item. has_place links uppers ids place wanted item.id.0) items) (length items) false
    (length-map items (λ (item : Item). has_place links uppers ids place wanted item.id.0)) at_place)
  where
    within : (k : ℕ) → k < length items → k < length ids
    within k h = let n : length ids ≡ length items = ap length e ∙ length-map items (λ (i : Item). i.id.0) in omega arith

    at_place : (k : ℕ) → k < length items →
        get_or (map (λ item. has_place links uppers ids place wanted item.id.0) items) k false
        ≡ rows_place (closure_rows links ids uppers) (ids_of items) place wanted k
    at_place k h =
        get_or-map (λ (item : Item). has_place links uppers ids place wanted item.id.0) items k no_item false h
        ∙ ap (has_place links uppers ids place wanted) (sym (ap (λ xs. get_or xs k 0) e ∙ get_or-map (λ (i : Item). i.id.0) items k no_item 0 h))
        ∙ sym (place_by_rows links uppers ids place wanted k (within k h))
        ∙ ap (λ xs. rows_place (closure_rows links ids uppers) xs place wanted k) e

-- ---- numbers

count_is : (p : ℕ → Bool) (ids : List ℕ) → count_by (λ bit. bit) (map p ids) ≡ length (filter p ids)
count_is p ids = count_map p ids ∙ sym (length-filter p ids)
  where
    count_map : (p : ℕ → Bool) (ids : List ℕ) → count_by (λ bit. bit) (map p ids) ≡ count_by p ids
    count_map p [] = refl
    count_map p (x ∷ ids) =
        sum_by-cons (λ (bit : Bool). cond bit 1 0) (p x) (map p ids) ∙ ap (λ n. cond (p x) 1 0 + n) (count_map p ids)
        ∙ sym (sum_by-cons (λ (y : ℕ). cond (p y) 1 0) x ids)

map_both : {X Y : Type 0} (f : Y → Bool) (g : X → Y) (h : X → Bool) → ((x : X) → f (g x) ≡ h x) → (xs : List X) →
    map f (map g xs) ≡ map h xs
map_both f g h same [] = refl
map_both f g h same (x ∷ xs) = λ i. same x i ∷ map_both f g h same xs i

pub number_flags_are : (links : List Link) (ids uppers : List ℕ) (items : List Item) (compare : Compare) (n : ℕ) → uppers ≡ ids_of items →
    map (row_counts compare n) (closure_rows links ids uppers) ≡ map (λ item. has_number links ids compare n item.id.0) items
number_flags_are links ids uppers items compare n e =
    ap (λ us. map (row_counts compare n) (closure_rows links ids us)) e
    ∙ map_both (row_counts compare n) (closure_row links ids) (has_number links ids compare n)
    (λ a. ap (λ m. compares compare m n) (count_is (dominates links a) ids)) (ids_of items)
    ∙ map_both (has_number links ids compare n) (λ (item : Item). item.id.0) (λ item. has_number links ids compare n item.id.0)
    (λ item. refl) items

-- ---- what the callers get

pub position_exit : (b : BundleParts) (upper lower : ℕ) (rows : List (List Bool)) (items : List Item) (place : Place) (wanted : Bool)
    (r : Result (List Bool) Memory) → rows ≡ closure_of b lower upper → items ≡ items_at b.levels lower →
    IfOk r (λ flags. flags ≡ map (rows_place rows (ids_of items) place wanted) (range_with_len 0 (length items))) →
    IfOk r (λ flags. flags
    ≡ map (λ item. has_place b.links (ids_at b.levels upper) (ids_at b.levels lower) place wanted item.id.0) (items_at b.levels lower))
position_exit b upper lower rows items place wanted (Err e) made are told = tt
position_exit b upper lower rows items place wanted (Ok flags) made are told =
    told ∙ (λ i. map (rows_place (made i) (ids_of (are i)) place wanted) (range_with_len 0 (length (are i))))
    ∙ place_flags_are b.links (ids_at b.levels upper) (ids_at b.levels lower) (items_at b.levels lower) place wanted (ids_are b.levels lower)

pub number_exit : (b : BundleParts) (upper lower : ℕ) (rows : List (List Bool)) (compare : Compare) (n : ℕ)
    (r : Result (List Bool) Memory) → rows ≡ closure_of b lower upper →
    IfOk r (λ flags. flags ≡ map (row_counts compare n) rows) →
    IfOk r (λ flags. flags
    ≡ map (λ item. has_number b.links (ids_at b.levels lower) compare n item.id.0) (items_at b.levels upper))
number_exit b upper lower rows compare n (Err e) made told = tt
number_exit b upper lower rows compare n (Ok flags) made told =
    told ∙ ap (map (row_counts compare n)) made
    ∙ number_flags_are b.links (ids_at b.levels lower) (ids_at b.levels upper) (items_at b.levels upper) compare n (ids_are b.levels upper)

pub wide_exit : (b : BundleParts) (upper lower : ℕ) (rows : List (List Bool)) (items : List Item) →
    rows ≡ closure_of b lower upper → items ≡ items_at b.levels lower → All (λ row. length row ≡ length items) rows
wide_exit b upper lower rows items made are =
    let P : ℕ → List (List Bool) → Type 0 = λ n rs. All (λ row. length row ≡ n) rs in
    subst (P (length items)) (sym made)
    (subst (λ (n : ℕ). All (λ row. length row ≡ n) (closure_of b lower upper)) (sym (ap length are)) (rows_wide b lower upper))
