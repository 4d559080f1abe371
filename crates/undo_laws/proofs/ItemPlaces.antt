-- An item that was taken out finds its place.
use Rattle.std.proofs.Common.{◌≡◌, ℕ, suc, ◌+◌, ◌<◌, ◌≤◌, Bool, true, false, ◌&&◌, cond, List, [], ◌∷◌, ◌++◌, length, take, drop, nat_le, count_by, refl, sym, ap, subst, ◌∙◌, Some, None, arith}
use Rattle.std.specs.List.{slice_get, insert, remove}
use Rattle.std.proofs.lemmas.Bool.{and_parts, cond-true, ltb-true, lt-ltb, le-ltb, le-leb}
use Rattle.std.proofs.lemmas.List.{take_at, drop_at, length-take-le}
use Rattle.std.proofs.lemmas.List.Edits.{length-remove}
use Rattle.std.proofs.lemmas.List.Sums.{sum_by-cons}
use Rattle.std.proofs.lemmas.Option.{slice_get_within}
use Rattle.emu_names.specs.declared.kinds.LevelKind.{LevelKind}
use Rattle.emu_names.specs.declared.kinds.LevelKind.TheVariants as kinds
use Rattle.emu_names.specs.declared.rules.Broken.TheVariants as rules
use Rattle.level_items.specs.declared.items.Item.{Item}
use Rattle.level_items.specs.Times.{first_sample, last_sample, fits_kind, ends_in_time, is_before, starts_before}
use Rattle.level_items.specs.Levels.{level_of, KeepsLevelRule, is_before_first, are_apart, are_in_order, are_labels_for, new_place, put_at_place}
use Rattle.level_items.specs.Faults.{position_fault, insert_fault}
use Rattle.level_items.proofs.Lists.{around}
use Rattle.level_items.proofs.Apart.{first-le-last, across}
use Rattle.level_items.proofs.Rules.{rule_without}
use Rattle.level_items.proofs.Exact.{insert_exact}
use Rattle.edit_undo.specs.Inverse.{position_again}

-- an item that was taken from a level breaks no rule of the level without it
abbrev pub BreaksNoRuleAgain : Type 0
BreaksNoRuleAgain =
    (kind : LevelKind) (attributes : ℕ) (items : List Item) (i : ℕ) (item : Item) →
    KeepsLevelRule (level_of kind attributes items) → slice_get items i ≡ Some item →
    insert_fault kind (remove items i) (position_again kind i) item ≡ None

-- and put back, it gives the level
abbrev pub GivesTheLevelAgain : Type 0
GivesTheLevelAgain =
    (kind : LevelKind) (attributes : ℕ) (items : List Item) (i : ℕ) (item : Item) →
    KeepsLevelRule (level_of kind attributes items) → slice_get items i ≡ Some item →
    put_at_place kind (remove items i) (position_again kind i) item ≡ items

abbrev early : Item → Item → Bool
early x y = starts_before y.time x.time

none_early : (x : Item) (back : List Item) → is_before_first x.time back ≡ true → are_apart back ≡ true → count_by (early x) back ≡ 0
none_early x [] ahead order = refl
none_early x (y ∷ back) ahead order =
    let parts = and_parts (is_before_first y.time back) (are_apart back) order in
    let gap = ltb-true (last_sample x.time) (first_sample y.time) ahead in
    let low = first-le-last x.time in
    let fails : early x y ≡ false = le-ltb (first_sample y.time) (first_sample x.time) (omega arith) in
    sum_by-cons (λ z. cond (early x z) 1 0) y back ∙ ap (λ b. cond b 1 0 + count_by (early x) back) fails
    ∙ ap (λ n. 0 + n) (none_early x back (across (Some x) y.time back ahead parts.0) parts.1)

over_before : (y : Item) (front : List Item) (x : Item) (back : List Item) → is_before_first y.time (front ++ x ∷ back) ≡ true → are_apart (front ++ x ∷ back) ≡ true → is_before y.time x.time ≡ true
over_before y [] x back ahead order = ahead
over_before y (z ∷ front) x back ahead order =
    let parts = and_parts (is_before_first z.time (front ++ x ∷ back)) (are_apart (front ++ x ∷ back)) order in
    over_before y front x back (across (Some y) z.time (front ++ x ∷ back) ahead parts.0) parts.1

count_front : (front : List Item) (x : Item) (back : List Item) → are_apart (front ++ x ∷ back) ≡ true → count_by (early x) (front ++ back) ≡ length front
count_front [] x back order =
    let parts = and_parts (is_before_first x.time back) (are_apart back) order in
    none_early x back parts.0 parts.1
count_front (y ∷ front) x back order =
    let parts = and_parts (is_before_first y.time (front ++ x ∷ back)) (are_apart (front ++ x ∷ back)) order in
    let gap = ltb-true (last_sample y.time) (first_sample x.time) (over_before y front x back parts.0 parts.1) in
    let low = first-le-last y.time in
    let passes : early x y ≡ true = lt-ltb (first_sample y.time) (first_sample x.time) (omega arith) in
    sum_by-cons (λ z. cond (early x z) 1 0) y (front ++ back) ∙ ap (λ b. cond b 1 0 + count_by (early x) (front ++ back)) passes
    ∙ ap (λ n. 1 + n) (count_front front x back parts.1) ∙ one_more (length front)
  where
    one_more : (n : ℕ) → 1 + n ≡ suc n
    one_more n = omega arith

-- ---- its place

front_long : {X : Type 0} (xs : List X) (i : ℕ) (x : X) → slice_get xs i ≡ Some x → length (take i xs) ≡ i
front_long xs i x at = let within = slice_get_within xs i x at in length-take-le i xs (omega (arith, within))

by_count : (items : List Item) (i : ℕ) (item : Item) → are_apart items ≡ true → slice_get items i ≡ Some item → count_by (early item) (remove items i) ≡ i
by_count items i item order at =
    count_front (take i items) item (drop (suc i) items) (ap are_apart (around items i item at) ∙ order) ∙ front_long items i item at

place_again : (kind : LevelKind) (items : List Item) (i : ℕ) (item : Item) → are_in_order kind items ≡ true → slice_get items i ≡ Some item →
    new_place kind (remove items i) (position_again kind i) item.time ≡ i
place_again kinds.Item items i item order at = refl
place_again kinds.Segment items i item order at = by_count items i item order at
place_again kinds.Event items i item order at = by_count items i item order at

-- an element put where it was
pub insert_around : {X : Type 0} (xs : List X) (i : ℕ) (x z : X) → slice_get xs i ≡ Some x → insert (remove xs i) i z ≡ take i xs ++ z ∷ drop (suc i) xs
insert_around xs i x z at =
    let long = front_long xs i x at in
    ap (λ ys. ys ++ z ∷ drop i (remove xs i)) (take_at (take i xs) (drop (suc i) xs) i long)
    ∙ ap (λ ys. take i xs ++ z ∷ ys) (drop_at (take i xs) (drop (suc i) xs) i long)

pub insert_again : {X : Type 0} (xs : List X) (i : ℕ) (x : X) → slice_get xs i ≡ Some x → insert (remove xs i) i x ≡ xs
insert_again xs i x at = insert_around xs i x x at ∙ around xs i x at

pub items_again : GivesTheLevelAgain
items_again kind attributes items i item rule at =
    ap (λ p. insert (remove items i) p item) (place_again kind items i item rule.ordered at) ∙ insert_again items i item at

-- ---- no rule is broken

position_free : (kind : LevelKind) (i count : ℕ) → i ≤ count → position_fault kind count (position_again kind i) ≡ None
position_free kinds.Item i count low = cond-true (nat_le i count) None (Some rules.PositionOut) (le-leb i count low)
position_free kinds.Segment i count low = refl
position_free kinds.Event i count low = refl

pub free_again : BreaksNoRuleAgain
free_again kind attributes items i item rule at =
    let within = slice_get_within items i item at in
    let less = length-remove items i within in
    let about = subst (λ zs. KeepsLevelRule (level_of kind attributes zs)) (sym (around items i item at)) rule in
    let without = rule_without kind attributes (take i items) item (drop (suc i) items) about in
    let labels = (and_parts (fits_kind kind item.time && ends_in_time item.time) (are_labels_for attributes item.labels) without.fits).1 in
    (insert_exact kind attributes (remove items i) (position_again kind i) item without.rule labels).1 (
      position_free kind i (length (remove items i)) (omega (arith, within, less)),
      subst (λ zs. KeepsLevelRule (level_of kind attributes zs)) (sym (items_again kind attributes items i item rule at)) rule,
    )
