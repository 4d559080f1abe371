-- What a change of one level makes of all levels: their ids, the level of an id, the rules.
use Rattle.std.proofs.Common.{◌≡◌, ℕ, zero, suc, ◌+◌, ◌<◌, Bool, true, false, cond, ◌&&◌, ◌||◌, ◌==◌, List, [], ◌∷◌, ◌++◌, length, take, drop, Option, Some, None, is_some, nat_eq, refl, sym, ◌∙◌, ap, subst, arith, All, append_assoc, length-append, eqb-true, eq-eqb, slice_set, zero-add}
use Rattle.std.specs.List.{list_any, list_all, slice_get, insert, remove}
use Rattle.std.proofs.lemmas.Bool.{true≢false, and_parts, and_from}
use Rattle.std.proofs.lemmas.List.{length-map, length-set, take-append-drop}
use Rattle.std.proofs.lemmas.List.Sums.{sum_by-cons}
use Rattle.std.proofs.lemmas.List.Folds.{list_any-append}
use Rattle.std.proofs.lemmas.List.Elements.{All-cons, All-head, All-tail}
use Rattle.emu_names.specs.declared.limits.TheConstants.{BUNDLE_ITEMS}
use Rattle.emu_names.specs.declared.kinds.LevelKind.{LevelKind}
use Rattle.level_items.specs.declared.items.Item.{Item}
use Rattle.level_items.specs.Times.{fits_kind, ends_in_time}
use Rattle.level_items.specs.Levels.{Level, level_of, KeepsLevelRule, ids_of, are_different, is_short, are_labels_for, fits_level, new_place, change_at, relabelled}
use Rattle.level_items.specs.Faults.{insert_fault}
use Rattle.level_items.proofs.Lists.{any_parts, different_with, different_without, around}
use Rattle.level_items.proofs.Rules.{ids_parts, ids_joined, rule_with, rule_without, order_same}
use Rattle.level_items.proofs.Changes.{change_around, parts_of_fit, insert_rule}
use Rattle.bundle_state.specs.Bundle.{all_ids, item_count, has_id, level_from, level_of_id}
use Rattle.bundle_state.specs.Changed.{change_level, with_item, without_item, with_changed}
use Rattle.bundle_state.proofs.Tests.{any_append}
use Rattle.bundle_state.proofs.LevelsKept.{AreFine}

-- Ids with one id more.

-- the one list is the other with an id put in
pub record IsSpliced (id : ℕ) (short long : List ℕ) : Type 0 where
  pub front : List ℕ
  pub back : List ℕ
  pub short_is : short ≡ front ++ back
  pub long_is : long ≡ front ++ id ∷ back

pub spliced_any : (id q : ℕ) (short long : List ℕ) → IsSpliced id short long → list_any (nat_eq q) long ≡ (nat_eq q id || list_any (nat_eq q) short)
spliced_any id q short long s =
    ap (list_any (nat_eq q)) s.long_is ∙ any_parts (nat_eq q) s.front id s.back
    ∙ ap (λ ns. nat_eq q id || list_any (nat_eq q) ns) (sym s.short_is)

pub spliced_longer : (id : ℕ) (short long : List ℕ) → IsSpliced id short long → length long ≡ length short + 1
spliced_longer id short long s =
    let a : length long ≡ length (s.front ++ id ∷ s.back) = ap length s.long_is in
    let b : length short ≡ length (s.front ++ s.back) = ap length s.short_is in
    omega (arith, length-append s.front (id ∷ s.back), length-append s.front s.back)

pub spliced_with : (id : ℕ) (short long : List ℕ) → IsSpliced id short long → are_different short ≡ true → list_any (nat_eq id) short ≡ false → are_different long ≡ true
spliced_with id short long s apart fresh =
    ap are_different s.long_is
    ∙ different_with s.front id s.back (ap are_different (sym s.short_is) ∙ apart) (ap (list_any (nat_eq id)) (sym s.short_is) ∙ fresh)

pub spliced_without : (id : ℕ) (short long : List ℕ) → IsSpliced id short long → are_different long ≡ true → (are_different short ≡ true) × (list_any (nat_eq id) short ≡ false)
spliced_without id short long s apart =
    let parts = different_without s.front id s.back (ap are_different (sym s.long_is) ∙ apart) in
    (ap are_different s.short_is ∙ parts.0, ap (list_any (nat_eq id)) s.short_is ∙ parts.1)

-- an item put in
pub ids_inserted : (items : List Item) (place : ℕ) (item : Item) → IsSpliced item.id.0 (ids_of items) (ids_of (insert items place item))
ids_inserted items place item = record {
  front = ids_of (take place items);
  back = ids_of (drop place items);
  short_is = ap ids_of (sym (take-append-drop place items)) ∙ ids_joined (take place items) (drop place items);
  long_is = ids_parts (take place items) item (drop place items);
}

-- an item taken out
pub ids_removed : (items : List Item) (place : ℕ) (item : Item) → slice_get items place ≡ Some item → IsSpliced item.id.0 (ids_of (remove items place)) (ids_of items)
ids_removed items place item at = record {
  front = ids_of (take place items);
  back = ids_of (drop (suc place) items);
  short_is = ids_joined (take place items) (drop (suc place) items);
  long_is = ap ids_of (sym (around items place item at)) ∙ ids_parts (take place items) item (drop (suc place) items);
}

-- The ids of all levels.

ids_at : (fs bs : List Level) (l : Level) → all_ids (fs ++ l ∷ bs) ≡ all_ids fs ++ (ids_of l.items ++ all_ids bs)
ids_at [] bs l = refl
ids_at (x ∷ fs) bs l =
    ap (λ ns. ids_of x.items ++ ns) (ids_at fs bs l) ∙ sym (append_assoc (ids_of x.items) (all_ids fs) (ids_of l.items ++ all_ids bs))

grouped : (a b c d : List ℕ) → a ++ ((b ++ c) ++ d) ≡ (a ++ b) ++ (c ++ d)
grouped a b c d = simp append_assoc

pub splice_levels : (id : ℕ) (fs bs : List Level) (l m : Level) → IsSpliced id (ids_of l.items) (ids_of m.items) → IsSpliced id (all_ids (fs ++ l ∷ bs)) (all_ids (fs ++ m ∷ bs))
splice_levels id fs bs l m s = record {
  front = all_ids fs ++ s.front;
  back = s.back ++ all_ids bs;
  short_is = ids_at fs bs l ∙ ap (λ ns. all_ids fs ++ (ns ++ all_ids bs)) s.short_is ∙ grouped (all_ids fs) s.front s.back (all_ids bs);
  long_is = ids_at fs bs m ∙ ap (λ ns. all_ids fs ++ (ns ++ all_ids bs)) s.long_is ∙ grouped (all_ids fs) s.front (id ∷ s.back) (all_ids bs);
}

pub count_ids : (levels : List Level) → item_count levels ≡ length (all_ids levels)
count_ids [] = refl
count_ids (l ∷ ls) =
    let a : item_count (l ∷ ls) ≡ length l.items + item_count ls = sum_by-cons (λ (x : Level). length x.items) l ls in
    let b : item_count ls ≡ length (all_ids ls) = count_ids ls in
    let c : length (ids_of l.items ++ all_ids ls) ≡ length (ids_of l.items) + length (all_ids ls) = length-append (ids_of l.items) (all_ids ls) in
    let d : length (ids_of l.items) ≡ length l.items = length-map l.items (λ (i : Item). i.id.0) in
    omega arith

-- The level of an id.

two_tests : (a b : Bool) (n k m : ℕ) (rest : Option ℕ) → k ≡ m → (a ≡ true → b ≡ false) → cond b (Some n) (cond a (Some k) rest) ≡ cond a (Some m) (cond b (Some n) rest)
two_tests true true n k m rest e h = absurd (true≢false (h refl))
two_tests true false n k m rest e h = ap Some e
two_tests false b n k m rest e h = refl

either_test : (a b : Bool) (n m : ℕ) (rest : Option ℕ) → n ≡ m → cond (a || b) (Some n) rest ≡ cond a (Some m) (cond b (Some n) rest)
either_test true b n m rest e = ap Some e
either_test false b n m rest e = refl

absent_at : (id q : ℕ) (ids : List ℕ) → list_any (nat_eq id) ids ≡ false → nat_eq q id ≡ true → list_any (nat_eq q) ids ≡ false
absent_at id q ids fresh is = ap (λ k. list_any (nat_eq k) ids) (eqb-true q id is) ∙ fresh

pub level_spliced : (id n q : ℕ) (fs bs : List Level) (l m : Level) → IsSpliced id (ids_of l.items) (ids_of m.items) → list_any (nat_eq id) (all_ids (fs ++ l ∷ bs)) ≡ false →
    level_from n q (fs ++ m ∷ bs) ≡ cond (nat_eq q id) (Some (n + length fs)) (level_from n q (fs ++ l ∷ bs))
level_spliced id n q [] bs l m s fresh =
    ap (λ b. cond b (Some n) (level_from (suc n) q bs)) (spliced_any id q (ids_of l.items) (ids_of m.items) s)
    ∙ either_test (nat_eq q id) (has_id q l) n (n + 0) (level_from (suc n) q bs) (omega arith)
level_spliced id n q (x ∷ fs) bs l m s fresh =
    let parts : (list_any (nat_eq id) (ids_of x.items) ≡ false) × (list_any (nat_eq id) (all_ids (fs ++ l ∷ bs)) ≡ false)
    = any_append (nat_eq id) (ids_of x.items) (all_ids (fs ++ l ∷ bs)) fresh in
    ap (λ o. cond (has_id q x) (Some n) o) (level_spliced id (suc n) q fs bs l m s parts.1)
    ∙ two_tests (nat_eq q id) (has_id q x) n (suc n + length fs) (n + suc (length fs)) (level_from (suc n) q (fs ++ l ∷ bs)) (omega arith)
    (λ is. absent_at id q (ids_of x.items) parts.0 is)

pub has_level : (n q : ℕ) (levels : List Level) → is_some (level_from n q levels) ≡ list_any (nat_eq q) (all_ids levels)
has_level n q [] = refl
has_level n q (l ∷ ls) =
    by (has_id q l) (level_from (suc n) q ls) (list_any (nat_eq q) (all_ids ls)) (has_level (suc n) q ls)
    ∙ sym (list_any-append (nat_eq q) (ids_of l.items) (all_ids ls))
  where
    by : (b : Bool) (o : Option ℕ) (rest : Bool) → is_some o ≡ rest → is_some (cond b (Some n) o) ≡ (b || rest)
    by true o rest e = refl
    by false o rest e = e

none_of : (o : Option ℕ) → is_some o ≡ false → o ≡ None
none_of None e = refl
none_of (Some k) e = absurd (true≢false e)

pub no_level : (q : ℕ) (levels : List Level) → list_any (nat_eq q) (all_ids levels) ≡ false → level_of_id levels q ≡ None
no_level q levels fresh = none_of (level_of_id levels q) (has_level 0 q levels ∙ fresh)

pub level_unspliced : (id q : ℕ) (fs bs : List Level) (l m : Level) → IsSpliced id (ids_of l.items) (ids_of m.items) → are_different (all_ids (fs ++ m ∷ bs)) ≡ true →
    level_of_id (fs ++ l ∷ bs) q ≡ cond (nat_eq q id) None (level_of_id (fs ++ m ∷ bs) q)
level_unspliced id q fs bs l m s apart =
    let parts = spliced_without id (all_ids (fs ++ l ∷ bs)) (all_ids (fs ++ m ∷ bs)) (splice_levels id fs bs l m s) apart in
    by (nat_eq q id) refl parts.1 (level_spliced id 0 q fs bs l m s parts.1)
  where
    by : (b : Bool) → nat_eq q id ≡ b → list_any (nat_eq id) (all_ids (fs ++ l ∷ bs)) ≡ false →
        level_of_id (fs ++ m ∷ bs) q ≡ cond (nat_eq q id) (Some (0 + length fs)) (level_of_id (fs ++ l ∷ bs) q) →
        level_of_id (fs ++ l ∷ bs) q ≡ cond b None (level_of_id (fs ++ m ∷ bs) q)
    by true is fresh e = no_level q (fs ++ l ∷ bs) (absent_at id q (all_ids (fs ++ l ∷ bs)) fresh is)
    by false is fresh e = sym (e ∙ ap (λ b. cond b (Some (0 + length fs)) (level_of_id (fs ++ l ∷ bs) q)) is)

-- A level that is changed.

pub level_around : (f : Level → Level) (k : ℕ) (levels : List Level) (l : Level) → slice_get levels k ≡ Some l → change_level f k levels ≡ take k levels ++ f l ∷ drop (suc k) levels
level_around f k [] l at = absurd cc
level_around f zero (x ∷ levels) l at =
    let same : x ≡ l = cc in
    ap (λ z. f z ∷ levels) same
level_around f (suc k) (x ∷ levels) l at = ap (λ zs. x ∷ zs) (level_around f k levels l at)

pub front_length : (k : ℕ) (levels : List Level) (l : Level) → slice_get levels k ≡ Some l → length (take k levels) ≡ k
front_length k [] l at = absurd cc
front_length zero (x ∷ levels) l at = refl
front_length (suc k) (x ∷ levels) l at = ap suc (front_length k levels l at)

pub rule_at : (k : ℕ) (levels : List Level) (l : Level) → slice_get levels k ≡ Some l → All KeepsLevelRule levels → KeepsLevelRule l
rule_at k [] l at all = absurd cc
rule_at zero (x ∷ levels) l at all =
    let same : x ≡ l = cc in
    subst KeepsLevelRule same (All-head KeepsLevelRule x levels all)
rule_at (suc k) (x ∷ levels) l at all = rule_at k levels l at (All-tail KeepsLevelRule x levels all)

pub rules_changed : (f : Level → Level) (k : ℕ) (levels : List Level) (l : Level) → slice_get levels k ≡ Some l → All KeepsLevelRule levels → KeepsLevelRule (f l) →
    All KeepsLevelRule (change_level f k levels)
rules_changed f k [] l at all rule = absurd cc
rules_changed f zero (x ∷ levels) l at all rule =
    let same : l ≡ x = cc in
    All-cons KeepsLevelRule (f x) levels (subst (λ z. KeepsLevelRule (f z)) same rule) (All-tail KeepsLevelRule x levels all)
rules_changed f (suc k) (x ∷ levels) l at all rule =
    All-cons KeepsLevelRule x (change_level f k levels) (All-head KeepsLevelRule x levels all) (rules_changed f k levels l at (All-tail KeepsLevelRule x levels all) rule)

-- the levels around one of them
pub levels_around : (k : ℕ) (levels : List Level) (l : Level) → slice_get levels k ≡ Some l → take k levels ++ l ∷ drop (suc k) levels ≡ levels
levels_around k levels l at = around levels k l at

-- Levels with an item more.

pub inserted_level : (k : ℕ) (position : Option ℕ) (item : Item) (levels : List Level) (l : Level) → slice_get levels k ≡ Some l →
    list_any (nat_eq item.id.0) (all_ids levels) ≡ false → (q : ℕ) →
    level_of_id (change_level (with_item position item) k levels) q ≡ cond (nat_eq q item.id.0) (Some k) (level_of_id levels q)
inserted_level k position item levels l at fresh q =
    let fs = take k levels in
    let bs = drop (suc k) levels in
    let whole : fs ++ l ∷ bs ≡ levels = around levels k l at in
    let low : 0 + length fs ≡ k = zero-add (length fs) ∙ front_length k levels l at in
    ap (λ ls. level_of_id ls q) (level_around (with_item position item) k levels l at)
    ∙ level_spliced item.id.0 0 q fs bs l (with_item position item l) (ids_inserted l.items (new_place l.kind l.items position item.time) item)
    (ap (λ ls. list_any (nat_eq item.id.0) (all_ids ls)) whole ∙ fresh)
    ∙ ap (λ n. cond (nat_eq q item.id.0) (Some n) (level_of_id (fs ++ l ∷ bs) q)) low
    ∙ ap (λ ls. cond (nat_eq q item.id.0) (Some k) (level_of_id ls q)) whole

inserted_ids : (k : ℕ) (position : Option ℕ) (item : Item) (levels : List Level) (l : Level) → slice_get levels k ≡ Some l →
    IsSpliced item.id.0 (all_ids levels) (all_ids (change_level (with_item position item) k levels))
inserted_ids k position item levels l at =
    let fs = take k levels in
    let bs = drop (suc k) levels in
    let f = with_item position item in
    let s = splice_levels item.id.0 fs bs l (f l) (ids_inserted l.items (new_place l.kind l.items position item.time) item) in
    subst (λ ls. IsSpliced item.id.0 (all_ids ls) (all_ids (change_level f k levels))) (around levels k l at)
    (subst (λ ls. IsSpliced item.id.0 (all_ids (fs ++ l ∷ bs)) (all_ids ls)) (sym (level_around f k levels l at)) s)

pub inserted_fine : (k : ℕ) (position : Option ℕ) (item : Item) (levels : List Level) (l : Level) → slice_get levels k ≡ Some l → AreFine levels →
    item_count levels < BUNDLE_ITEMS → are_labels_for l.attributes item.labels ≡ true →
    list_any (nat_eq item.id.0) (all_ids levels) ≡ false → insert_fault l.kind l.items position item ≡ None →
    AreFine (change_level (with_item position item) k levels)
inserted_fine k position item levels l at fine room labels fresh free =
    let f = with_item position item in
    let s = inserted_ids k position item levels l at in
    let longer = spliced_longer item.id.0 (all_ids levels) (all_ids (change_level f k levels)) s in
    let before = count_ids levels in
    let after = count_ids (change_level f k levels) in
    record {
      few = omega (arith, longer, before, after, room);
      apart = spliced_with item.id.0 (all_ids levels) (all_ids (change_level f k levels)) s fine.apart fresh;
      rules = rules_changed f k levels l at fine.rules
          (insert_rule l.kind l.attributes l.items position (new_place l.kind l.items position item.time) item (rule_at k levels l at fine.rules) free refl labels).1;
    }

-- Levels without an item.

pub removed_level : (k place : ℕ) (item : Item) (levels : List Level) (l : Level) → slice_get levels k ≡ Some l → slice_get l.items place ≡ Some item →
    are_different (all_ids levels) ≡ true → (q : ℕ) →
    level_of_id (change_level (without_item place) k levels) q ≡ cond (nat_eq q item.id.0) None (level_of_id levels q)
removed_level k place item levels l at there apart q =
    let fs = take k levels in
    let bs = drop (suc k) levels in
    let whole : fs ++ l ∷ bs ≡ levels = around levels k l at in
    ap (λ ls. level_of_id ls q) (level_around (without_item place) k levels l at)
    ∙ level_unspliced item.id.0 q fs bs (without_item place l) l (ids_removed l.items place item there) (ap (λ ls. are_different (all_ids ls)) whole ∙ apart)
    ∙ ap (λ ls. cond (nat_eq q item.id.0) None (level_of_id ls q)) whole

removed_ids : (k place : ℕ) (item : Item) (levels : List Level) (l : Level) → slice_get levels k ≡ Some l → slice_get l.items place ≡ Some item →
    IsSpliced item.id.0 (all_ids (change_level (without_item place) k levels)) (all_ids levels)
removed_ids k place item levels l at there =
    let fs = take k levels in
    let bs = drop (suc k) levels in
    let f = without_item place in
    let s = splice_levels item.id.0 fs bs (f l) l (ids_removed l.items place item there) in
    subst (λ ls. IsSpliced item.id.0 (all_ids (change_level f k levels)) (all_ids ls)) (around levels k l at)
    (subst (λ ls. IsSpliced item.id.0 (all_ids ls) (all_ids (fs ++ l ∷ bs))) (sym (level_around f k levels l at)) s)

remove_rule : (kind : LevelKind) (attributes : ℕ) (items : List Item) (place : ℕ) (item : Item) → KeepsLevelRule (level_of kind attributes items) →
    slice_get items place ≡ Some item → KeepsLevelRule (level_of kind attributes (remove items place))
remove_rule kind attributes items place item keeps at =
    (rule_without kind attributes (take place items) item (drop (suc place) items)
    (subst (λ zs. KeepsLevelRule (level_of kind attributes zs)) (sym (around items place item at)) keeps)).rule

pub removed_fine : (k place : ℕ) (item : Item) (levels : List Level) (l : Level) → slice_get levels k ≡ Some l → slice_get l.items place ≡ Some item → AreFine levels →
    AreFine (change_level (without_item place) k levels)
removed_fine k place item levels l at there fine =
    let f = without_item place in
    let s = removed_ids k place item levels l at there in
    let longer = spliced_longer item.id.0 (all_ids (change_level f k levels)) (all_ids levels) s in
    let before = count_ids levels in
    let after = count_ids (change_level f k levels) in
    let few = fine.few in
    record {
      few = omega (arith, longer, before, after, few);
      apart = (spliced_without item.id.0 (all_ids (change_level f k levels)) (all_ids levels) s fine.apart).0;
      rules = rules_changed f k levels l at fine.rules (remove_rule l.kind l.attributes l.items place item (rule_at k levels l at fine.rules) there);
    }

-- Levels with an item that is changed, which keeps its id.

ids_kept : (f : Item → Item) → ((i : Item) → (f i).id.0 ≡ i.id.0) → (place : ℕ) (items : List Item) → ids_of (change_at f place items) ≡ ids_of items
ids_kept f same place [] = refl
ids_kept f same zero (x ∷ items) = ap (λ n. n ∷ ids_of items) (same x)
ids_kept f same (suc place) (x ∷ items) = ap (λ ns. x.id.0 ∷ ns) (ids_kept f same place items)

module _ (f : Item → Item) (same : (i : Item) → (f i).id.0 ≡ i.id.0) (place : ℕ) where
  pub changed_ids : (k : ℕ) (levels : List Level) → all_ids (change_level (with_changed f place) k levels) ≡ all_ids levels
  changed_ids k [] = refl
  changed_ids zero (x ∷ levels) = ap (λ ns. ns ++ all_ids levels) (ids_kept f same place x.items)
  changed_ids (suc k) (x ∷ levels) = ap (λ ns. ids_of x.items ++ ns) (changed_ids k levels)

  changed_from : (k n q : ℕ) (levels : List Level) → level_from n q (change_level (with_changed f place) k levels) ≡ level_from n q levels
  changed_from k n q [] = refl
  changed_from zero n q (x ∷ levels) = ap (λ ns. cond (list_any (nat_eq q) ns) (Some n) (level_from (suc n) q levels)) (ids_kept f same place x.items)
  changed_from (suc k) n q (x ∷ levels) = ap (λ o. cond (has_id q x) (Some n) o) (changed_from k (suc n) q levels)

  pub changed_level : (k : ℕ) (levels : List Level) (q : ℕ) → level_of_id (change_level (with_changed f place) k levels) q ≡ level_of_id levels q
  changed_level k levels q = changed_from k 0 q levels

  pub changed_fine : (k : ℕ) (levels : List Level) (l : Level) → slice_get levels k ≡ Some l → AreFine levels → KeepsLevelRule (with_changed f place l) →
      AreFine (change_level (with_changed f place) k levels)
  changed_fine k levels l at fine rule = record {
    few = let before = count_ids levels in
        let after = count_ids (change_level (with_changed f place) k levels) in
        let same_length : length (all_ids (change_level (with_changed f place) k levels)) ≡ length (all_ids levels) = ap length (changed_ids k levels) in
        let few = fine.few in
        omega (arith, before, after, same_length, few);
    apart = ap are_different (changed_ids k levels) ∙ fine.apart;
    rules = rules_changed (with_changed f place) k levels l at fine.rules rule;
  }

-- Another label.

all_set : (p : List ℕ → Bool) (xs : List (List ℕ)) (i : ℕ) (y : List ℕ) → p y ≡ true → list_all p xs ≡ true → list_all p (slice_set xs i y) ≡ true
all_set p [] i y passes all = refl
all_set p (x ∷ xs) zero y passes all = and_from (p y) (list_all p xs) passes (and_parts (p x) (list_all p xs) all).1
all_set p (x ∷ xs) (suc i) y passes all =
    let parts = and_parts (p x) (list_all p xs) all in
    and_from (p x) (list_all p (slice_set xs i y)) parts.0 (all_set p xs i y passes parts.1)

pub label_rule : (kind : LevelKind) (attributes : ℕ) (items : List Item) (place : ℕ) (item : Item) (attribute : ℕ) (label : List ℕ) →
    KeepsLevelRule (level_of kind attributes items) → slice_get items place ≡ Some item → is_short label ≡ true →
    KeepsLevelRule (level_of kind attributes (change_at (relabelled attribute label) place items))
label_rule kind attributes items place item attribute label keeps at short =
    let before = take place items in
    let behind = drop (suc place) items in
    let y = relabelled attribute label item in
    let rule = subst (λ zs. KeepsLevelRule (level_of kind attributes zs)) (sym (around items place item at)) keeps in
    let without = rule_without kind attributes before item behind rule in
    let fit = parts_of_fit kind attributes item without.fits in
    let labels = slice_set item.labels attribute label in
    let count : (length labels == attributes) ≡ true = eq-eqb (length labels) attributes (length-set item.labels attribute label ∙ fit.count) in
    let whole : are_labels_for attributes labels ≡ true = and_from (length labels == attributes) (list_all is_short labels) count (all_set is_short item.labels attribute label short fit.short) in
    let fits : fits_level kind attributes y ≡ true =
    and_from (fits_kind kind item.time && ends_in_time item.time) (are_labels_for attributes labels) (and_from (fits_kind kind item.time) (ends_in_time item.time) fit.form fit.end) whole in
    subst (λ zs. KeepsLevelRule (level_of kind attributes zs)) (sym (change_around (relabelled attribute label) place items item at))
    (rule_with kind attributes before y behind without.rule without.fresh fits (order_same kind before item y behind refl rule.ordered))
