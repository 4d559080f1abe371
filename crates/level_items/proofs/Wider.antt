-- A level with more attributes keeps the level rule.
use Rattle.std.proofs.Common.{◌≡◌, ℕ, zero, suc, ◌+◌, ◌-◌, ◌≤◌, true, ◌&&◌, List, [], ◌∷◌, ◌++◌, length, map, replicate, nat_eq, refl, sym, ap, subst, ◌∙◌, arith}
use Rattle.std.specs.List.{list_all, list_any}
use Rattle.std.proofs.lemmas.Bool.{and_parts, and_from, eq-eqb}
use Rattle.std.proofs.lemmas.List.{append-nil, length-append, length-map, length-replicate}
use Rattle.std.proofs.lemmas.List.Folds.{list_all-append}
use Rattle.emu_names.specs.declared.kinds.LevelKind.{LevelKind}
use Rattle.emu_names.specs.declared.kinds.LevelKind.TheVariants as kinds
use Rattle.level_items.specs.declared.times.Time.{Time}
use Rattle.level_items.specs.declared.items.Item.{Item}
use Rattle.level_items.specs.declared.marks.Marks.{Marks}
use Rattle.level_items.specs.Levels.{Level, level_of, widened, KeepsLevelRule, ids_of, are_different, is_short, are_labels_for, fits_level, are_in_order, are_apart, is_before_first, padded, widened_item}
use Rattle.level_items.specs.Inner.Kept.{IsKept}
use Rattle.level_items.specs.Inner.Marked.{KeepsMarked, is_id_of}
use Rattle.level_items.proofs.Changes.{carried, parts_of_fit, fit_of_parts}

-- ---- labels

pub length_padded : (count : ℕ) (labels : List (List ℕ)) → length labels ≤ count → length (padded count labels) ≡ count
length_padded count labels within =
    length-append labels (replicate (count - length labels) []) ∙ ap (λ n. length labels + n) (length-replicate (count - length labels) []) ∙ omega arith

all_empty : (n : ℕ) → list_all is_short (replicate n []) ≡ true
all_empty zero = refl
all_empty (suc n) = all_empty n

pub labels_padded : (count : ℕ) (labels : List (List ℕ)) → length labels ≤ count → list_all is_short labels ≡ true → are_labels_for count (padded count labels) ≡ true
labels_padded count labels within short =
    and_from _ _ (eq-eqb _ _ (length_padded count labels within))
    (list_all-append is_short labels (replicate (count - length labels) []) ∙ and_from _ _ short (all_empty (count - length labels)))

-- ---- items

pub ids_widened : (count : ℕ) (items : List Item) → ids_of (map (widened_item count) items) ≡ ids_of items
ids_widened count [] = refl
ids_widened count (x ∷ xs) = ap (λ ns. x.id.0 ∷ ns) (ids_widened count xs)

pub length_widened : (count : ℕ) (items : List Item) → length (map (widened_item count) items) ≡ length items
length_widened count items = length-map items (widened_item count)

apart_widened : (count : ℕ) (items : List Item) → are_apart (map (widened_item count) items) ≡ are_apart items
apart_widened count [] = refl
apart_widened count (x ∷ xs) =
    ap (λ b. b && are_apart (map (widened_item count) xs)) (first x.time xs) ∙ ap (λ b. is_before_first x.time xs && b) (apart_widened count xs)
  where
    first : (time : Time) (ys : List Item) → is_before_first time (map (widened_item count) ys) ≡ is_before_first time ys
    first time [] = refl
    first time (y ∷ ys) = refl

order_widened : (kind : LevelKind) (count : ℕ) (items : List Item) → are_in_order kind (map (widened_item count) items) ≡ are_in_order kind items
order_widened kinds.Item count items = refl
order_widened kinds.Segment count items = apart_widened count items
order_widened kinds.Event count items = apart_widened count items

fit_widened : (kind : LevelKind) (attributes count : ℕ) (x : Item) → attributes ≤ count → fits_level kind attributes x ≡ true → fits_level kind count (widened_item count x) ≡ true
fit_widened kind attributes count x within fits =
    let parts = parts_of_fit kind attributes x fits in
    let whole = parts.count in
    fit_of_parts kind count (widened_item count x) parts.form parts.end (labels_padded count x.labels (omega arith) parts.short)

all_widened : (kind : LevelKind) (attributes count : ℕ) (items : List Item) → attributes ≤ count →
    list_all (fits_level kind attributes) items ≡ true → list_all (fits_level kind count) (map (widened_item count) items) ≡ true
all_widened kind attributes count [] within fits = refl
all_widened kind attributes count (x ∷ xs) within fits =
    let parts = and_parts (fits_level kind attributes x) (list_all (fits_level kind attributes) xs) fits in
    and_from _ _ (fit_widened kind attributes count x within parts.0) (all_widened kind attributes count xs within parts.1)

-- ---- levels

pub rule_widened : (kind : LevelKind) (attributes count : ℕ) (items : List Item) → attributes ≤ count →
    KeepsLevelRule (level_of kind attributes items) → KeepsLevelRule (level_of kind count (map (widened_item count) items))
rule_widened kind attributes count items within rule = record {
  distinct = ap are_different (ids_widened count items) ∙ rule.distinct;
  fitting = all_widened kind attributes count items within rule.fitting;
  ordered = order_widened kind count items ∙ rule.ordered;
}

pub kept_widened : (kind : LevelKind) (attributes count : ℕ) (items : List Item) (marks : Marks) → attributes ≤ count →
    IsKept (level_of kind attributes items) marks → IsKept (level_of kind count (map (widened_item count) items)) marks
kept_widened kind attributes count items marks within kept = record {
  rule = rule_widened kind attributes count items within kept.rule;
  marked = carried (is_id_of items) (is_id_of (map (widened_item count) items)) marks
      (λ q. ap (λ ns. list_any (nat_eq q) ns) (sym (ids_widened count items))) kept.marked;
}

pub kept_copy : (kind : LevelKind) (attributes count : ℕ) (items made : List Item) (marks new : Marks) → attributes ≤ count →
    IsKept (level_of kind attributes items) marks → made ≡ map (widened_item count) items → KeepsMarked (λ test. test) marks new → IsKept (level_of kind count made) new
kept_copy kind attributes count items made marks new within kept is same =
    let wide = kept_widened kind attributes count items marks within kept in
    subst (λ zs. IsKept (level_of kind count zs) new) (sym is)
    (record { rule = wide.rule; marked = same (is_id_of (map (widened_item count) items)) wide.marked })

-- a level with as many attributes as it has is the level itself
padded_same : (count : ℕ) (labels : List (List ℕ)) → length labels ≡ count → padded count labels ≡ labels
padded_same count labels same =
    let none : count - length labels ≡ 0 = omega arith in
    ap (λ n. labels ++ replicate n []) none ∙ append-nil labels

items_same : (kind : LevelKind) (attributes : ℕ) (items : List Item) → list_all (fits_level kind attributes) items ≡ true → map (widened_item attributes) items ≡ items
items_same kind attributes [] fits = refl
items_same kind attributes (x ∷ xs) fits =
    let parts = and_parts (fits_level kind attributes x) (list_all (fits_level kind attributes) xs) fits in
    let count = (parts_of_fit kind attributes x parts.0).count in
    ap (λ ls. record { id = x.id; time = x.time; labels = ls } ∷ map (widened_item attributes) xs) (padded_same attributes x.labels count)
    ∙ ap (λ ys. x ∷ ys) (items_same kind attributes xs parts.1)

pub widened_same : (level : Level) → KeepsLevelRule level → widened level.attributes level ≡ level
widened_same level rule = ap (λ items. level_of level.kind level.attributes items) (items_same level.kind level.attributes level.items rule.fitting)
