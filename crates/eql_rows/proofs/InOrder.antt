-- Items in the order of their times: the samples of those that are kept are the first sample of the first and the last one of the last.
use Rattle.std.proofs.Common.{◌≡◌, ℕ, zero, suc, ◌<◌, ◌≤◌, Bool, true, false, cond, List, [], ◌∷◌, length, map, get_or, Some, refl, ap, ◌∙◌, arith}
use Rattle.std.specs.Prelude.{All, min, max}
use Rattle.std.specs.List.{filter, list_all}
use Rattle.std.specs.List.Sorted.{IsNonDecreasingBy}
use Rattle.std.proofs.Math.Nat.{min-eq_left, max-eq_right, max-le}
use Rattle.std.proofs.lemmas.Bool.{and_parts, ltb-true}
use Rattle.std.proofs.lemmas.List.Elements.{All-head, All-tail, All-filter, All-from_get_or, All-map}
use Rattle.emu_names.specs.declared.kinds.LevelKind.{LevelKind}
use Rattle.emu_names.specs.declared.kinds.LevelKind.TheVariants as kinds
use Rattle.level_items.specs.declared.times.Time.{Time}
use Rattle.level_items.specs.declared.times.Time.TheVariants.{NoTime, Span, Point}
use Rattle.level_items.specs.declared.items.Item.{Item}
use Rattle.level_items.specs.Times.{first_sample, last_sample, fits_kind, is_before}
use Rattle.level_items.specs.Levels.{Level, KeepsLevelRule, are_apart, are_in_order, fits_level, is_before_first}
use Rattle.level_items.proofs.Apart.{first-le-last, starts_rise}
use Rattle.level_items.proofs.Changes.{parts_of_fit}
use Rattle.eql_rows.specs.Rows.{least, greatest, extent}

abbrev pub start : Item → ℕ
start item = first_sample item.time

abbrev pub end : Item → ℕ
end item = last_sample item.time

-- ---- times in order

-- last samples do not fall
ends_rise : (items : List Item) (i j : ℕ) (d : Item) → are_apart items ≡ true → i ≤ j → j < length items →
    end (get_or items i d) ≤ end (get_or items j d)
ends_rise [] i j d h order within = absurd (omega arith)
ends_rise (x ∷ xs) zero zero d h order within = omega arith
ends_rise (x ∷ []) zero (suc j) d h order within = absurd (omega arith)
ends_rise (x ∷ y ∷ xs) zero (suc j) d h order within =
    let parts = and_parts (is_before x.time y.time) (are_apart (y ∷ xs)) h in
    let step = ltb-true (last_sample x.time) (first_sample y.time) parts.0 in
    let low = first-le-last y.time in
    let rest = ends_rise (y ∷ xs) zero j d parts.1 (omega arith) (omega arith) in
    omega arith
ends_rise (x ∷ xs) (suc i) zero d h order within = absurd (omega arith)
ends_rise (x ∷ xs) (suc i) (suc j) d h order within =
    let parts = and_parts (is_before_first x.time xs) (are_apart xs) h in
    ends_rise xs i j d parts.1 (omega arith) (omega arith)

test_at : (p : Item → Bool) (items : List Item) (i : ℕ) (d : Item) → list_all p items ≡ true → i < length items → p (get_or items i d) ≡ true
test_at p [] i d all h = absurd (omega arith)
test_at p (x ∷ xs) zero d all h = (and_parts (p x) (list_all p xs) all).0
test_at p (x ∷ xs) (suc i) d all h = test_at p xs i d (and_parts (p x) (list_all p xs) all).1 (omega arith)

no_start : (time : Time) → fits_kind kinds.Item time ≡ true → first_sample time ≡ 0
no_start NoTime fits = refl
no_start (Span start dur) fits = absurd cc
no_start (Point at) fits = absurd cc

no_end : (time : Time) → fits_kind kinds.Item time ≡ true → last_sample time ≡ 0
no_end NoTime fits = refl
no_end (Span start dur) fits = absurd cc
no_end (Point at) fits = absurd cc

item_at : (attributes : ℕ) (items : List Item) (i : ℕ) (d : Item) → list_all (fits_level kinds.Item attributes) items ≡ true →
    i < length items → fits_kind kinds.Item (get_or items i d).time ≡ true
item_at attributes items i d all h =
    (parts_of_fit kinds.Item attributes (get_or items i d) (test_at (fits_level kinds.Item attributes) items i d all h)).form

starts_by : (kind : LevelKind) (attributes : ℕ) (items : List Item) → list_all (fits_level kind attributes) items ≡ true →
    are_in_order kind items ≡ true → IsNonDecreasingBy start items
starts_by kinds.Item attributes items fits order = λ i j d le h.
    let none = no_start (get_or items i d).time (item_at attributes items i d fits (omega arith)) in omega arith
starts_by kinds.Segment attributes items fits order = λ i j d le h. starts_rise items i j d order le h
starts_by kinds.Event attributes items fits order = λ i j d le h. starts_rise items i j d order le h

ends_by : (kind : LevelKind) (attributes : ℕ) (items : List Item) → list_all (fits_level kind attributes) items ≡ true →
    are_in_order kind items ≡ true → IsNonDecreasingBy end items
ends_by kinds.Item attributes items fits order = λ i j d le h.
    let none = no_end (get_or items i d).time (item_at attributes items i d fits (omega arith)) in omega arith
ends_by kinds.Segment attributes items fits order = λ i j d le h. ends_rise items i j d order le h
ends_by kinds.Event attributes items fits order = λ i j d le h. ends_rise items i j d order le h

pub starts_in_order : (level : Level) → KeepsLevelRule level → IsNonDecreasingBy start level.items
starts_in_order level rule = starts_by level.kind level.attributes level.items rule.fitting rule.ordered

pub ends_in_order : (level : Level) → KeepsLevelRule level → IsNonDecreasingBy end level.items
ends_in_order level rule = ends_by level.kind level.attributes level.items rule.fitting rule.ordered

-- ---- the samples of those that are kept

least_is : (n : ℕ) (ms : List ℕ) → All (λ m. n ≤ m) ms → least n ms ≡ n
least_is n [] all = refl
least_is n (m ∷ ms) all =
    ap (λ k. least k ms) (min-eq_left (All-head (λ k. n ≤ k) m ms all)) ∙ least_is n ms (All-tail (λ k. n ≤ k) m ms all)

-- none passes
pub none_kept : (p : Item → Bool) (items : List Item) (d : Item) → ((k : ℕ) → k < length items → p (get_or items k d) ≡ false) →
    filter p items ≡ []
none_kept p [] d none = refl
none_kept p (x ∷ xs) d none =
    ap (λ b. cond b (x ∷ filter p xs) (filter p xs)) (none 0 (omega arith))
    ∙ none_kept p xs d (λ k h. none (suc k) (omega arith))

clear_above : (b : Bool) (k z : ℕ) → z < k → (b ≡ true → k ≤ z) → b ≡ false
clear_above true k z h all = let order = all refl in absurd (omega arith)
clear_above false k z h all = refl

either_greatest : (b : Bool) (n : ℕ) (x : Item) (kept : List Item) (whole : ℕ) → greatest n (map end kept) ≡ whole →
    greatest (max n (end x)) (map end kept) ≡ whole → greatest n (map end (cond b (x ∷ kept) kept)) ≡ whole
either_greatest true n x kept whole bare more = more
either_greatest false n x kept whole bare more = bare

greatest_is : (p : Item → Bool) (n z : ℕ) (d : Item) (items : List Item) → IsNonDecreasingBy end items → z < length items →
    ((k : ℕ) → k < length items → n ≤ end (get_or items k d)) → p (get_or items z d) ≡ true →
    ((k : ℕ) → k < length items → p (get_or items k d) ≡ true → k ≤ z) → greatest n (map end (filter p items)) ≡ end (get_or items z d)
greatest_is p n z d [] rise h low set last = absurd (omega arith)
greatest_is p n zero d (x ∷ xs) rise h low set last =
    ap (λ b. greatest n (map end (cond b (x ∷ filter p xs) (filter p xs)))) set
    ∙ ap (λ kept. greatest (max n (end x)) (map end kept))
    (none_kept p xs d (λ k within. clear_above (p (get_or xs k d)) (suc k) 0 (omega arith) (last (suc k) (omega arith))))
    ∙ max-eq_right (low 0 (omega arith))
greatest_is p n (suc z) d (x ∷ xs) rise h low set last =
    either_greatest (p x) n x (filter p xs) (end (get_or xs z d))
    (greatest_is p n z d xs rest (omega arith) (λ k within. low (suc k) (omega arith)) set behind)
    (greatest_is p (max n (end x)) z d xs rest (omega arith)
    (λ k within. max-le (low (suc k) (omega arith)) (rise 0 (suc k) d (omega arith) (omega arith))) set behind)
  where
    rest : IsNonDecreasingBy end xs
    rest = λ i j e le within. rise (suc i) (suc j) e (omega arith) (omega arith)

    behind : (k : ℕ) → k < length xs → p (get_or xs k d) ≡ true → k ≤ z
    behind k within is = let order = last (suc k) (omega arith) is in omega arith

-- the greatest last sample from an item on, which is kept
greatest_from : (p : Item → Bool) (x : Item) (z : ℕ) (d : Item) (xs : List Item) → IsNonDecreasingBy end (x ∷ xs) → z < suc (length xs) →
    p (get_or (x ∷ xs) z d) ≡ true → ((k : ℕ) → k < suc (length xs) → p (get_or (x ∷ xs) k d) ≡ true → k ≤ z) →
    greatest (end x) (map end (filter p xs)) ≡ end (get_or (x ∷ xs) z d)
greatest_from p x zero d xs rise h set last =
    ap (λ kept. greatest (end x) (map end kept))
    (none_kept p xs d (λ k within. clear_above (p (get_or xs k d)) (suc k) 0 (omega arith) (last (suc k) (omega arith))))
greatest_from p x (suc z) d xs rise h set last =
    greatest_is p (end x) z d xs (λ i j e le within. rise (suc i) (suc j) e (omega arith) (omega arith)) (omega arith)
    (λ k within. rise 0 (suc k) d (omega arith) (omega arith)) set
    (λ k within is. let order = last (suc k) (omega arith) is in omega arith)

-- the samples of those that are kept, of which these are the first and the last
pub extent_is : (p : Item → Bool) (a z : ℕ) (d : Item) (items : List Item) → IsNonDecreasingBy start items → IsNonDecreasingBy end items →
    a < length items → z < length items → p (get_or items a d) ≡ true → p (get_or items z d) ≡ true →
    ((k : ℕ) → k < length items → p (get_or items k d) ≡ true → (a ≤ k) × (k ≤ z)) →
    extent (filter p items) ≡ Some (start (get_or items a d), end (get_or items z d))
extent_is p a z d [] starts ends low high first last between = absurd (omega arith)
extent_is p zero z d (x ∷ xs) starts ends low high first last between =
    ap (λ b. extent (cond b (x ∷ filter p xs) (filter p xs))) first
    ∙ (λ i. Some (
      least_is (start x) (map start (filter p xs)) none_less i,
      greatest_from p x z d xs ends (omega arith) last (λ k within is. (between k (omega arith) is).1) i,
    ))
  where
    none_less : All (λ m. start x ≤ m) (map start (filter p xs))
    none_less =
        All-map (λ m. start x ≤ m) start (filter p xs)
        (All-filter p (λ y. start x ≤ start y) xs
        (All-from_get_or (λ y. start x ≤ start y) xs d (λ k within. starts 0 (suc k) d (omega arith) (omega arith))))
extent_is p (suc a) zero d (x ∷ xs) starts ends low high first last between =
    let order = (between (suc a) low first).1 in absurd (omega arith)
extent_is p (suc a) (suc z) d (x ∷ xs) starts ends low high first last between =
    ap (λ b. extent (cond b (x ∷ filter p xs) (filter p xs))) before
    ∙ extent_is p a z d xs (λ i j e le within. starts (suc i) (suc j) e (omega arith) (omega arith))
    (λ i j e le within. ends (suc i) (suc j) e (omega arith) (omega arith)) (omega arith) (omega arith) first last
    (λ k within is. let order = between (suc k) (omega arith) is in (omega (arith, order.0), omega (arith, order.1)))
  where
    clear_below : (b : Bool) → (b ≡ true → suc a ≤ 0) → b ≡ false
    clear_below true all = let order = all refl in absurd (omega arith)
    clear_below false all = refl

    before : p x ≡ false
    before = clear_below (p x) (λ is. (between 0 (omega arith) is).0)
