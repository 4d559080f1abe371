-- What a level list keeps, after each change.
use Rattle.std.proofs.Common.{◌≡◌, ℕ, zero, suc, ◌<◌, Bool, true, false, not, ◌&&◌, ◌||◌, ◌==◌, cond, List, [], ◌∷◌, ◌++◌, length, take, drop, nat_eq, refl, sym, ap, subst, ◌∙◌, Option, Some, None, arith}
use Rattle.std.specs.List.{list_any, list_all, slice_get, slice_set, insert, remove}
use Rattle.std.proofs.lemmas.Bool.{and_parts, and_from, eqb-true, eq-eqb}
use Rattle.std.proofs.lemmas.List.{take-append-drop, length-set}
use Rattle.std.proofs.Math.Seq.{take-append_seam}
use Rattle.emu_names.specs.declared.kinds.LevelKind.{LevelKind}
use Rattle.emu_names.specs.declared.rules.Broken.{Broken}
use Rattle.emu_names.specs.declared.rules.Broken.TheVariants as rules
use Rattle.level_items.specs.declared.times.Time.{Time}
use Rattle.level_items.specs.declared.items.Item.{Item}
use Rattle.level_items.specs.declared.marks.Marks.{Marks}
use Rattle.level_items.specs.Times.{fits_kind, ends_in_time}
use Rattle.level_items.specs.Levels.{level_of, KeepsLevelRule, ids_of, are_labels_for, is_short, fits_level, new_place, change_at, retimed, relabelled}
use Rattle.level_items.specs.Faults.{time_fault, position_fault, neighbour_fault, insert_fault, retime_fault}
use Rattle.std.specs.Option.{option_or}
use Rattle.level_items.specs.Inner.Marked.{AreMarked, KeepsMarked, is_id_of}
use Rattle.level_items.specs.Inner.Kept.{IsKept}
use Rattle.level_items.proofs.Lists.{around}
use Rattle.level_items.proofs.Rules.{or_none, order_with, order_same, rule_with, rule_without, any_id, without_id, again}

-- ---- lists

pub length-change_at : (f : Item → Item) (i : ℕ) (items : List Item) → length (change_at f i items) ≡ length items
length-change_at f i [] = refl
length-change_at f zero (x ∷ items) = refl
length-change_at f (suc i) (x ∷ items) = ap suc (length-change_at f i items)

pub change_around : (f : Item → Item) (i : ℕ) (items : List Item) (x : Item) → slice_get items i ≡ Some x → change_at f i items ≡ take i items ++ f x ∷ drop (suc i) items
change_around f i [] x at = absurd cc
change_around f zero (y ∷ items) x at =
    let same : y ≡ x = cc in
    ap (λ z. f z ∷ items) same
change_around f (suc i) (y ∷ items) x at = ap (λ zs. y ∷ zs) (change_around f i items x at)

-- a list that was written as a whole
pub written : (old new : List Item) (len : ℕ) → len ≡ length old → length new ≡ length old → take len (new ++ drop (length new) old) ≡ new
written old new len all same = ap (λ n. take n (new ++ drop (length new) old)) (all ∙ sym same) ∙ take-append_seam new (drop (length new) old)

all_set : (p : List ℕ → Bool) (xs : List (List ℕ)) (i : ℕ) (y : List ℕ) → p y ≡ true → list_all p xs ≡ true → list_all p (slice_set xs i y) ≡ true
all_set p [] i y passes all = refl
all_set p (x ∷ xs) zero y passes all = and_from _ _ passes (and_parts (p x) (list_all p xs) all).1
all_set p (x ∷ xs) (suc i) y passes all =
    let parts = and_parts (p x) (list_all p xs) all in
    and_from _ _ parts.0 (all_set p xs i y passes parts.1)

-- ---- an item that fits its level

pub record IsFit (kind : LevelKind) (attributes : ℕ) (item : Item) : Type 0 where
  pub form : fits_kind kind item.time ≡ true
  pub end : ends_in_time item.time ≡ true
  pub count : length item.labels ≡ attributes
  pub short : list_all is_short item.labels ≡ true

pub parts_of_fit : (kind : LevelKind) (attributes : ℕ) (item : Item) → fits_level kind attributes item ≡ true → IsFit kind attributes item
parts_of_fit kind attributes item fits =
    let whole = and_parts (fits_kind kind item.time && ends_in_time item.time) (are_labels_for attributes item.labels) fits in
    let time = and_parts (fits_kind kind item.time) (ends_in_time item.time) whole.0 in
    let labels = and_parts (length item.labels == attributes) (list_all is_short item.labels) whole.1 in
    record { form = time.0; end = time.1; count = eqb-true _ _ labels.0; short = labels.1 }

pub fit_of_parts : (kind : LevelKind) (attributes : ℕ) (item : Item) → fits_kind kind item.time ≡ true → ends_in_time item.time ≡ true → are_labels_for attributes item.labels ≡ true → fits_level kind attributes item ≡ true
fit_of_parts kind attributes item form end labels = and_from _ _ (and_from _ _ form end) labels

-- an item of a level fits it
pub fit_at : (kind : LevelKind) (attributes : ℕ) (items : List Item) (i : ℕ) (x : Item) → KeepsLevelRule (level_of kind attributes items) → slice_get items i ≡ Some x → IsFit kind attributes x
fit_at kind attributes items i x rule at =
    let about = subst (λ zs. KeepsLevelRule (level_of kind attributes zs)) (sym (around items i x at)) rule in
    parts_of_fit kind attributes x (rule_without kind attributes (take i items) x (drop (suc i) items) about).fits

pub attribute_at : (kind : LevelKind) (attributes : ℕ) (items : List Item) (i : ℕ) (x : Item) (attribute : ℕ) → KeepsLevelRule (level_of kind attributes items) →
    slice_get items i ≡ Some x → attribute < attributes → attribute < length x.labels
attribute_at kind attributes items i x attribute rule at within =
    let fit = fit_at kind attributes items i x rule at in
    let count = fit.count in
    omega arith

-- ---- no fault

time_free : (kind : LevelKind) (time : Time) → time_fault kind time ≡ None → (fits_kind kind time ≡ true) × (ends_in_time time ≡ true)
time_free kind time free = by_tests (fits_kind kind time) (ends_in_time time) free
  where
    by_tests : (a b : Bool) → cond (not a) (Some rules.TimeKind) (cond (not b) (Some rules.TimeOut) None) ≡ None → (a ≡ true) × (b ≡ true)
    by_tests true true h = (refl, refl)
    by_tests true false h = absurd cc
    by_tests false b h = absurd cc

id_free : (taken : Bool) (rule : Broken) (rest : Option Broken) → cond taken (Some rule) rest ≡ None → (taken ≡ false) × (rest ≡ None)
id_free true rule rest h = absurd cc
id_free false rule rest h = (refl, h)

-- ---- an item put in

pub insert_rule : (kind : LevelKind) (attributes : ℕ) (items : List Item) (position : Option ℕ) (place : ℕ) (x : Item) →
    KeepsLevelRule (level_of kind attributes items) →
    insert_fault kind items position x ≡ None →
    place ≡ new_place kind items position x.time →
    are_labels_for attributes x.labels ≡ true →
    (position_fault kind (length items) position ≡ None) × KeepsLevelRule (level_of kind attributes (insert items place x))
insert_rule kind attributes items position place x keeps free is labels =
    let at = new_place kind items position x.time in
    let first = id_free (list_any (nat_eq x.id.0) (ids_of items)) (rules.IdTaken x.id)
    (option_or (time_fault kind x.time) (option_or (position_fault kind (length items) position) (neighbour_fault kind (take at items) x.time (drop at items)))) free in
    let second = or_none (time_fault kind x.time) (option_or (position_fault kind (length items) position) (neighbour_fault kind (take at items) x.time (drop at items))) first.1 in
    let third = or_none (position_fault kind (length items) position) (neighbour_fault kind (take at items) x.time (drop at items)) second.1 in
    let time = time_free kind x.time second.0 in
    let sides = ap (λ p. neighbour_fault kind (take p items) x.time (drop p items)) is ∙ third.1 in
    let whole = take-append-drop place items in
    let rule = subst (λ zs. KeepsLevelRule (level_of kind attributes zs)) (sym whole) keeps in (
      third.0,
      rule_with kind attributes (take place items) x (drop place items) rule (ap (λ zs. list_any (nat_eq x.id.0) (ids_of zs)) whole ∙ first.0)
          (fit_of_parts kind attributes x time.0 time.1 labels)
          (order_with kind (take place items) x (drop place items) rule.ordered sides),
    )

-- the marks of these ids are those of the same ids, told otherwise
pub carried : (p test : ℕ → Bool) (marks : Marks) → ((q : ℕ) → p q ≡ test q) → AreMarked p marks → AreMarked test marks
carried p test marks same marked = subst (λ t. AreMarked t marks) (λ i q. same q i) marked

pub kept_insert : (kind : LevelKind) (attributes : ℕ) (items : List Item) (position : Option ℕ) (place : ℕ) (x : Item) (new : Marks) →
    KeepsLevelRule (level_of kind attributes items) →
    insert_fault kind items position x ≡ None →
    place ≡ new_place kind items position x.time →
    are_labels_for attributes x.labels ≡ true →
    AreMarked (λ q. nat_eq q x.id.0 || is_id_of items q) new →
    IsKept (level_of kind attributes (insert items place x)) new
kept_insert kind attributes items position place x new rule free is labels more = record {
  rule = (insert_rule kind attributes items position place x rule free is labels).1;
  marked = carried (λ q. nat_eq q x.id.0 || is_id_of items q) (is_id_of (insert items place x)) new
      (λ q. ap (λ zs. nat_eq q x.id.0 || is_id_of zs q) (sym (take-append-drop place items)) ∙ sym (any_id q (take place items) x (drop place items)))
      more;
}

-- ---- an item taken out

pub kept_remove : (kind : LevelKind) (attributes : ℕ) (items : List Item) (i : ℕ) (x : Item) (old new : Marks) →
    IsKept (level_of kind attributes items) old →
    slice_get items i ≡ Some x →
    KeepsMarked (λ test q. not (nat_eq q x.id.0) && test q) old new →
    IsKept (level_of kind attributes (remove items i)) new
kept_remove kind attributes items i x old new kept at less =
    let whole = around items i x at in
    let rest = take i items ++ drop (suc i) items in
    let rule = subst (λ zs. KeepsLevelRule (level_of kind attributes zs)) (sym whole) kept.rule in
    let without = rule_without kind attributes (take i items) x (drop (suc i) items) rule in
    record {
      rule = without.rule;
      marked = carried (λ q. not (nat_eq q x.id.0) && is_id_of items q) (is_id_of rest) new
          (λ q. without_id q x.id.0 (ids_of rest) (is_id_of items q) without.fresh
          (ap (λ zs. is_id_of zs q) (sym whole) ∙ any_id q (take i items) x (drop (suc i) items)))
          (less (is_id_of items) kept.marked);
    }

-- ---- an item changed

pub retime_rule : (kind : LevelKind) (attributes : ℕ) (items : List Item) (i : ℕ) (x : Item) (time : Time) →
    KeepsLevelRule (level_of kind attributes items) →
    slice_get items i ≡ Some x →
    retime_fault kind items i time ≡ None →
    KeepsLevelRule (level_of kind attributes (change_at (retimed time) i items))
retime_rule kind attributes items i x time keeps at free =
    let before = take i items in
    let behind = drop (suc i) items in
    let rule = subst (λ zs. KeepsLevelRule (level_of kind attributes zs)) (sym (around items i x at)) keeps in
    let without = rule_without kind attributes before x behind rule in
    let sides = or_none (time_fault kind time) (neighbour_fault kind before time behind) free in
    let form = time_free kind time sides.0 in
    let labels = (and_parts (fits_kind kind x.time && ends_in_time x.time) (are_labels_for attributes x.labels) without.fits).1 in
    subst (λ zs. KeepsLevelRule (level_of kind attributes zs)) (sym (change_around (retimed time) i items x at))
    (rule_with kind attributes before (retimed time x) behind without.rule without.fresh (fit_of_parts kind attributes (retimed time x) form.0 form.1 labels)
    (order_with kind before (retimed time x) behind without.rule.ordered sides.1))

pub kept_retime : (kind : LevelKind) (attributes : ℕ) (items : List Item) (i : ℕ) (x : Item) (time : Time) (old new : Marks) →
    IsKept (level_of kind attributes items) old →
    slice_get items i ≡ Some x →
    retime_fault kind items i time ≡ None →
    KeepsMarked (λ test q. nat_eq q x.id.0 || test q) old new →
    IsKept (level_of kind attributes (change_at (retimed time) i items)) new
kept_retime kind attributes items i x time old new kept at free more =
    let before = take i items in
    let behind = drop (suc i) items in
    let changed = change_at (retimed time) i items in
    let rest : (q : ℕ) → is_id_of changed q ≡ (nat_eq q x.id.0 || is_id_of (before ++ behind) q) =
    λ q. ap (λ zs. is_id_of zs q) (change_around (retimed time) i items x at) ∙ any_id q before (retimed time x) behind in
    record {
      rule = retime_rule kind attributes items i x time kept.rule at free;
      marked = carried (λ q. nat_eq q x.id.0 || is_id_of items q) (is_id_of changed) new
          (λ q. ap (λ b. nat_eq q x.id.0 || b) (ap (λ zs. is_id_of zs q) (sym (around items i x at)) ∙ any_id q before x behind)
          ∙ again (nat_eq q x.id.0) (is_id_of (before ++ behind) q) ∙ sym (rest q))
          (more (is_id_of items) kept.marked);
    }

pub kept_label : (kind : LevelKind) (attributes : ℕ) (items : List Item) (i : ℕ) (x : Item) (attribute : ℕ) (label : List ℕ) (marks : Marks) →
    IsKept (level_of kind attributes items) marks →
    slice_get items i ≡ Some x →
    is_short label ≡ true →
    IsKept (level_of kind attributes (change_at (relabelled attribute label) i items)) marks
kept_label kind attributes items i x attribute label marks kept at short =
    let before = take i items in
    let behind = drop (suc i) items in
    let whole = around items i x at in
    let y = relabelled attribute label x in
    let changed = change_around (relabelled attribute label) i items x at in
    let rule = subst (λ zs. KeepsLevelRule (level_of kind attributes zs)) (sym whole) kept.rule in
    let without = rule_without kind attributes before x behind rule in
    let fit = parts_of_fit kind attributes x without.fits in
    let count : (length (slice_set x.labels attribute label) == attributes) ≡ true = eq-eqb _ _ (length-set x.labels attribute label ∙ fit.count) in
    let labels = and_from (length (slice_set x.labels attribute label) == attributes) (list_all is_short (slice_set x.labels attribute label)) count (all_set is_short x.labels attribute label short fit.short) in
    let new = change_at (relabelled attribute label) i items in
    let rest : (q : ℕ) → is_id_of new q ≡ (nat_eq q x.id.0 || is_id_of (before ++ behind) q) =
    λ q. ap (λ zs. is_id_of zs q) changed ∙ any_id q before y behind in
    record {
      rule = subst (λ zs. KeepsLevelRule (level_of kind attributes zs)) (sym changed)
          (rule_with kind attributes before y behind without.rule without.fresh (fit_of_parts kind attributes y fit.form fit.end labels)
          (order_same kind before x y behind refl rule.ordered));
      marked = carried (is_id_of items) (is_id_of new) marks
          (λ q. ap (λ zs. is_id_of zs q) (sym whole) ∙ any_id q before x behind ∙ sym (rest q)) kept.marked;
    }
