-- The place of an item on the levels of a bundle, and what a change of one level makes of it.
use Rattle.std.proofs.Common.{◌≡◌, ℕ, zero, suc, ◌+◌, Bool, true, false, ◌||◌, not, List, [], ◌∷◌, ◌++◌, Option, Some, None, ok_or, option_map, Result, Ok, nat_eq, refl, sym, ◌∙◌, ap, arith, zero-add, eqb-true, eq-eqb}
use Rattle.std.specs.List.{list_any, slice_get}
use Rattle.std.specs.Option.{option_or, option_and_then}
use Rattle.std.proofs.lemmas.Bool.{true≢false, and_parts, and_from, or_parts, not-true, not_from_false}
use Rattle.std.proofs.lemmas.List.Folds.{list_any-append}
use Rattle.emu_names.specs.declared.kinds.ItemId.{ItemId}
use Rattle.emu_names.specs.declared.rules.Broken.{Broken}
use Rattle.emu_names.specs.declared.rules.Broken.TheVariants as rules
use Rattle.level_items.specs.declared.times.Time.{Time}
use Rattle.level_items.specs.declared.items.Item.{Item}
use Rattle.level_items.specs.Levels.{Level, ids_of, are_different, retimed}
use Rattle.level_items.specs.Faults.{retime_fault}
use Rattle.level_items.proofs.Found.{found, absent}
use Rattle.bundle_state.specs.Bundle.{BundleParts, all_ids, place_from, place_of}
use Rattle.bundle_state.specs.Linked.{unless_broken}
use Rattle.emu_names.specs.Steps.{onward}
use Rattle.bundle_state.specs.Changed.{change_level, with_change, new_time_fault, item_retimed, without, item_removed}
use Rattle.bundle_edits.proofs.Spans.{some_same}

-- One level of several.

pub level_here : (f : Level → Level) (k : ℕ) (levels : List Level) (l : Level) → slice_get levels k ≡ Some l → slice_get (change_level f k levels) k ≡ Some (f l)
level_here f k [] l at = absurd cc
level_here f zero (x ∷ levels) l at = ap (λ (z : Level). Some (f z)) (some_same x l at)
level_here f (suc k) (x ∷ levels) l at = level_here f k levels l at

pub level_twice : (f g : Level → Level) (k : ℕ) (levels : List Level) → change_level g k (change_level f k levels) ≡ change_level (λ l. g (f l)) k levels
level_twice f g k [] = refl
level_twice f g zero (x ∷ levels) = refl
level_twice f g (suc k) (x ∷ levels) = ap (λ (ls : List Level). x ∷ ls) (level_twice f g k levels)

pub level_alike : (f g : Level → Level) (k : ℕ) (levels : List Level) (l : Level) → slice_get levels k ≡ Some l → f l ≡ g l → change_level f k levels ≡ change_level g k levels
level_alike f g k [] l at same = refl
level_alike f g zero (x ∷ levels) l at same =
    let own : x ≡ l = some_same x l at in
    ap (λ (z : Level). z ∷ levels) (ap f own ∙ same ∙ ap g (sym own))
level_alike f g (suc k) (x ∷ levels) l at same = ap (λ (ls : List Level). x ∷ ls) (level_alike f g k levels l at same)

-- Ids that differ.

or_later : (a b : Bool) → b ≡ true → (a || b) ≡ true
or_later true b is = refl
or_later false b is = is

or_first : (a b : Bool) → a ≡ true → (a || b) ≡ true
or_first true b is = refl
or_first false b is = absurd (true≢false (sym is))

same_number : (n : ℕ) → nat_eq n n ≡ true
same_number n = eq-eqb n n refl

id_there : (items : List Item) (i : ℕ) (x : Item) → slice_get items i ≡ Some x → list_any (nat_eq x.id.0) (ids_of items) ≡ true
id_there [] i x at = absurd cc
id_there (y ∷ ys) zero x at =
    or_first (nat_eq x.id.0 y.id.0) (list_any (nat_eq x.id.0) (ids_of ys)) (ap (λ (z : Item). nat_eq x.id.0 z.id.0) (some_same y x at) ∙ same_number x.id.0)
id_there (y ∷ ys) (suc i) x at = or_later (nat_eq x.id.0 y.id.0) (list_any (nat_eq x.id.0) (ids_of ys)) (id_there ys i x at)

id_on_level : (levels : List Level) (k i : ℕ) (l : Level) (x : Item) → slice_get levels k ≡ Some l → slice_get l.items i ≡ Some x → list_any (nat_eq x.id.0) (all_ids levels) ≡ true
id_on_level [] k i l x there at = absurd cc
id_on_level (y ∷ ys) zero i l x there at =
    list_any-append (nat_eq x.id.0) (ids_of y.items) (all_ids ys)
    ∙ or_first (list_any (nat_eq x.id.0) (ids_of y.items)) (list_any (nat_eq x.id.0) (all_ids ys))
    (ap (λ (z : Level). list_any (nat_eq x.id.0) (ids_of z.items)) (some_same y l there) ∙ id_there l.items i x at)
id_on_level (y ∷ ys) (suc k) i l x there at =
    list_any-append (nat_eq x.id.0) (ids_of y.items) (all_ids ys)
    ∙ or_later (list_any (nat_eq x.id.0) (ids_of y.items)) (list_any (nat_eq x.id.0) (all_ids ys)) (id_on_level ys k i l x there at)

record AreApart (xs ys : List ℕ) : Type 0 where
  left : are_different xs ≡ true
  right : are_different ys ≡ true
  misses : (q : ℕ) → list_any (nat_eq q) ys ≡ true → list_any (nat_eq q) xs ≡ false

parts_of : (xs ys : List ℕ) → are_different (xs ++ ys) ≡ true → AreApart xs ys
parts_of [] ys apart = record { left = refl; right = apart; misses = λ q is. refl }
parts_of (x ∷ xs) ys apart =
    let parts = and_parts (not (list_any (nat_eq x) (xs ++ ys))) (are_different (xs ++ ys)) apart in
    let none = sym (list_any-append (nat_eq x) xs ys) ∙ not-true (list_any (nat_eq x) (xs ++ ys)) parts.0 in
    let sides = or_parts (list_any (nat_eq x) xs) (list_any (nat_eq x) ys) none in
    let rest : AreApart xs ys = parts_of xs ys parts.1 in
    record {
      left = and_from (not (list_any (nat_eq x) xs)) (are_different xs) (not_from_false (list_any (nat_eq x) xs) sides.0) rest.left;
      right = rest.right;
      misses = λ q is. misses_first q (nat_eq q x) refl sides.1 is (rest.misses q is);
    }
  where
    misses_first : (q : ℕ) (same : Bool) → nat_eq q x ≡ same → list_any (nat_eq x) ys ≡ false → list_any (nat_eq q) ys ≡ true → list_any (nat_eq q) xs ≡ false →
        (same || list_any (nat_eq q) xs) ≡ false
    misses_first q true same none is rest = absurd (true≢false (sym is ∙ ap (λ (n : ℕ). list_any (nat_eq n) ys) (eqb-true q x same) ∙ none))
    misses_first q false same none is rest = rest

abbrev place_is : ℕ → ℕ → Option (ℕ × ℕ)
place_is k i = Some (k, i)

-- an item of levels whose ids differ is found by its id
placed_from : (n : ℕ) (levels : List Level) (k i : ℕ) (l : Level) (x : Item) → are_different (all_ids levels) ≡ true → slice_get levels k ≡ Some l → slice_get l.items i ≡ Some x →
    place_from n x.id.0 levels ≡ Some (n + k, i)
placed_from n [] k i l x apart there at = absurd cc
placed_from n (y ∷ ys) zero i l x apart there at =
    let parts : AreApart (ids_of y.items) (all_ids ys) = parts_of (ids_of y.items) (all_ids ys) apart in
    let own : slice_get y.items i ≡ Some x = ap (λ (z : Level). slice_get z.items i) (some_same y l there) ∙ at in
    ap (λ (o : Option ℕ). option_or (option_map (λ p. (n, p)) o) (place_from (suc n) x.id.0 ys)) (sym (found y.items i x x.id.0 parts.left own refl))
    ∙ ap (λ (m : ℕ). place_is m i) (no_more n)
  where
    no_more : (a : ℕ) → a ≡ a + 0
    no_more a = omega arith
placed_from n (y ∷ ys) (suc k) i l x apart there at =
    let parts : AreApart (ids_of y.items) (all_ids ys) = parts_of (ids_of y.items) (all_ids ys) apart in
    let none = parts.misses x.id.0 (id_on_level ys k i l x there at) in
    ap (λ (o : Option ℕ). option_or (option_map (λ p. (n, p)) o) (place_from (suc n) x.id.0 ys)) (sym (absent y.items x.id.0 none))
    ∙ placed_from (suc n) ys k i l x parts.right there at
    ∙ ap (λ (m : ℕ). place_is m i) (more n k)
  where
    more : (a b : ℕ) → suc a + b ≡ a + suc b
    more a b = omega arith

pub placed_at : (levels : List Level) (k i : ℕ) (l : Level) (x : Item) → are_different (all_ids levels) ≡ true → slice_get levels k ≡ Some l → slice_get l.items i ≡ Some x →
    place_of levels x.id.0 ≡ Some (k, i)
placed_at levels k i l x apart there at = placed_from 0 levels k i l x apart there at ∙ ap (λ (m : ℕ). place_is m i) (zero-add k)

module _ (b : BundleParts) (k i : ℕ) (l : Level) (x : Item) (apart : are_different (all_ids b.levels) ≡ true) (there : slice_get b.levels k ≡ Some l) (at : slice_get l.items i ≡ Some x) where
  -- a time that breaks no rule at a place
  pub retime_goes : (id : ItemId) (time : Time) → x.id ≡ id → retime_fault l.kind l.items i time ≡ None → item_retimed id time b ≡ Ok (with_change (retimed time) (k, i) b)
  retime_goes id time own free =
      ap (λ (o : Option (ℕ × ℕ)). onward (ok_or o (rules.NoItem id)) next) (ap (λ (q : ItemId). place_of b.levels q.0) (sym own) ∙ placed_at b.levels k i l x apart there at)
      ∙ ap (λ (o : Option Level). unless_broken (option_and_then (λ (m : Level). retime_fault m.kind m.items i time) o) (with_change (retimed time) (k, i) b)) there
      ∙ ap (λ (o : Option Broken). unless_broken o (with_change (retimed time) (k, i) b)) free
    where
      next : ℕ × ℕ → Result BundleParts Broken
      next place = unless_broken (new_time_fault place time b.levels) (with_change (retimed time) place b)

  pub remove_goes : (id : ItemId) → x.id ≡ id → item_removed id b ≡ Ok (without id (k, i) b)
  remove_goes id own =
      ap (λ (o : Option (ℕ × ℕ)). onward (ok_or o (rules.NoItem id)) next) (ap (λ (q : ItemId). place_of b.levels q.0) (sym own) ∙ placed_at b.levels k i l x apart there at)
    where
      next : ℕ × ℕ → Result BundleParts Broken
      next place = Ok (without id place b)
