-- On which level of a bundle the item with an id stands, and at which position.
use Rattle.std.proofs.Common.{◌≡◌, ℕ, zero, suc, ◌+◌, ◌<◌, Bool, true, false, not, ◌&&◌, List, [], ◌∷◌, ◌++◌, length, get_or, nat_eq, refl, sym, ap, ◌∙◌, Option, Some, None, arith, option_map, ⊎_elim}
use Rattle.std.specs.Prelude.{IsSome}
use Rattle.std.specs.List.{list_any, slice_get, position}
use Rattle.std.specs.Option.{option_map_or}
use Rattle.std.proofs.lemmas.Bool.{and_parts, not-true, cond-true, cond-false, cases_Bool, eqb-true, or_parts}
use Rattle.std.proofs.lemmas.List.Concat.{flat_map-cons}
use Rattle.std.proofs.lemmas.List.Folds.{list_any-append}
use Rattle.std.proofs.lemmas.List.Quantifiers.{position-Some}
use Rattle.std.proofs.lemmas.Option.{slice_get_within, slice_get-get_or, slice_get-map}
use Rattle.level_items.specs.declared.items.Item.{Item}
use Rattle.level_items.specs.Levels.{Level, ids_of, are_different}
use Rattle.bundle_state.specs.Bundle.{all_ids, has_id, level_from, level_of_id, position_on, place_of}
use Rattle.bundle_state.proofs.IdLevels.{IsAt, place_found}
use Rattle.hier_closure.specs.Dominance.{ids_at}
use Rattle.hier_closure.proofs.Ways.{or_split, or_right, or_left}

-- ---- ids that differ

-- whether an id is among these
abbrev pub is_in : ℕ → List ℕ → Bool
is_in x ids = list_any (nat_eq x) ids

in_right : (x : ℕ) (xs ys : List ℕ) → is_in x ys ≡ true → is_in x (xs ++ ys) ≡ true
in_right x xs ys h = list_any-append (nat_eq x) xs ys ∙ or_right (is_in x xs) (is_in x ys) h

in_left : (x : ℕ) (xs ys : List ℕ) → is_in x xs ≡ true → is_in x (xs ++ ys) ≡ true
in_left x xs ys h = list_any-append (nat_eq x) xs ys ∙ or_left (is_in x xs) (is_in x ys) h

different_tail : (xs ys : List ℕ) → are_different (xs ++ ys) ≡ true → are_different ys ≡ true
different_tail [] ys h = h
different_tail (x ∷ xs) ys h = different_tail xs ys (and_parts (not (is_in x (xs ++ ys))) (are_different (xs ++ ys)) h).1

different_front : (xs ys : List ℕ) → are_different (xs ++ ys) ≡ true → are_different xs ≡ true
different_front [] ys h = refl
different_front (x ∷ xs) ys h =
    let parts = and_parts (not (is_in x (xs ++ ys))) (are_different (xs ++ ys)) h in
    let out : is_in x (xs ++ ys) ≡ false = not-true _ parts.0 in
    let out_here : is_in x xs ≡ false = (or_parts (is_in x xs) (is_in x ys) (sym (list_any-append (nat_eq x) xs ys) ∙ out)).0 in
    ap (λ b. not b && are_different xs) out_here ∙ different_front xs ys parts.1

in_one : (x : ℕ) (xs ys : List ℕ) → are_different (xs ++ ys) ≡ true → is_in x xs ≡ true → is_in x ys ≡ true → ⊥
in_one x [] ys apart left right = cc
in_one x (y ∷ xs) ys apart left right =
    let parts = and_parts (not (is_in y (xs ++ ys))) (are_different (xs ++ ys)) apart in
    ⊎_elim
    (λ (same : nat_eq x y ≡ true).
    let there : is_in y (xs ++ ys) ≡ true = ap (λ n. is_in n (xs ++ ys)) (sym (eqb-true x y same)) ∙ in_right x xs ys right in
    let not_there : is_in y (xs ++ ys) ≡ false = not-true _ parts.0 in
    absurd cc)
    (λ (rest : is_in x xs ≡ true). in_one x xs ys parts.1 rest right)
    (or_split (nat_eq x y) (is_in x xs) left)

-- ---- the level of an id

all_ids_cons : (l : Level) (levels : List Level) → all_ids (l ∷ levels) ≡ ids_of l.items ++ all_ids levels
all_ids_cons l levels = flat_map-cons (λ (k : Level). ids_of k.items) l levels

in_all : (levels : List Level) (n x : ℕ) → is_in x (ids_at levels n) ≡ true → is_in x (all_ids levels) ≡ true
in_all [] zero x h = absurd cc
in_all [] (suc n) x h = absurd cc
in_all (l ∷ levels) zero x h = ap (is_in x) (all_ids_cons l levels) ∙ in_left x (ids_of l.items) (all_ids levels) h
in_all (l ∷ levels) (suc n) x h =
    ap (is_in x) (all_ids_cons l levels) ∙ in_right x (ids_of l.items) (all_ids levels) (in_all levels n x h)

level_from_is : (levels : List Level) (k n x : ℕ) → are_different (all_ids levels) ≡ true → is_in x (ids_at levels n) ≡ true →
    level_from k x levels ≡ Some (k + n)
level_from_is [] k zero x apart h = absurd cc
level_from_is [] k (suc n) x apart h = absurd cc
level_from_is (l ∷ levels) k zero x apart h =
    cond-true (has_id x l) (Some k) (level_from (suc k) x levels) h ∙ ap (λ m. Some m) (omega arith)
level_from_is (l ∷ levels) k (suc n) x apart h =
    let whole : are_different (ids_of l.items ++ all_ids levels) ≡ true = ap are_different (sym (all_ids_cons l levels)) ∙ apart in
    let rest = level_from_is levels (suc k) n x (different_tail (ids_of l.items) (all_ids levels) whole) h in
    let away : has_id x l ≡ false =
    ⊎_elim (λ (here : has_id x l ≡ true). absurd (in_one x (ids_of l.items) (all_ids levels) whole here (in_all levels n x h)))
    (λ (none : has_id x l ≡ false). none) (cases_Bool (has_id x l)) in
    cond-false (has_id x l) (Some k) (level_from (suc k) x levels) away ∙ rest ∙ ap (λ m. Some m) (omega arith)

-- an id among those of a level is that of an item of this level, and of no other
pub level_is : (levels : List Level) (n x : ℕ) → are_different (all_ids levels) ≡ true → is_in x (ids_at levels n) ≡ true →
    level_of_id levels x ≡ Some n
level_is levels n x apart h = level_from_is levels 0 n x apart h ∙ ap (λ m. Some m) (omega arith)

pub ids_different : (levels : List Level) (n : ℕ) → are_different (all_ids levels) ≡ true → are_different (ids_at levels n) ≡ true
ids_different [] zero apart = refl
ids_different [] (suc n) apart = refl
ids_different (l ∷ levels) zero apart =
    different_front (ids_of l.items) (all_ids levels) (ap are_different (sym (all_ids_cons l levels)) ∙ apart)
ids_different (l ∷ levels) (suc n) apart =
    ids_different levels n (different_tail (ids_of l.items) (all_ids levels) (ap are_different (sym (all_ids_cons l levels)) ∙ apart))

-- ---- the place of an id

-- the item with an id stands at this position of this level
pub record Stands (levels : List Level) (q n p : ℕ) : Type 0 where
  pub level : level_of_id levels q ≡ Some n
  pub within : n < length levels
  pub at : slice_get (ids_at levels n) p ≡ Some q

at_position : (q : ℕ) (level : Level) (p : ℕ) → position_on q level ≡ Some p → slice_get (ids_of level.items) p ≡ Some q
at_position q level p h = by level.items h
  where
    by : (items : List Item) → position (λ i. nat_eq i.id.0 q) items ≡ Some p → slice_get (ids_of items) p ≡ Some q
    by [] h = absurd cc
    by (i ∷ items) h =
        let found = position-Some (λ (j : Item). nat_eq j.id.0 q) (i ∷ items) p i h in
        slice_get-map (λ (j : Item). j.id.0) (i ∷ items) p
        ∙ ap (option_map (λ (j : Item). j.id.0)) (slice_get-get_or (i ∷ items) p i found.0)
        ∙ ap (λ m. Some m) (eqb-true (get_or (i ∷ items) p i).id.0 q found.1)

-- a place, where there is one
abbrev pub some_place : ℕ → ℕ → Option (ℕ × ℕ)
some_place n p = Some (n, p)

some_pair : (a b c d : ℕ) → some_place a b ≡ some_place c d → (a ≡ c) × (b ≡ d)
some_pair a b c d e = (ap (λ o. option_map_or (λ (x : ℕ × ℕ). x.0) o 0) e, ap (λ o. option_map_or (λ (x : ℕ × ℕ). x.1) o 0) e)

stands_at : (levels : List Level) (q m n p : ℕ) → level_of_id levels q ≡ Some m → some_place n p ≡ place_of levels q → Stands levels q n p
stands_at levels q m n p level place =
    let found : IsAt q 0 levels m = place_found q 0 levels m level in
    let parts = some_pair n p m found.at (place ∙ found.place_is) in
    let offset : found.offset ≡ n = zero_plus found.offset m n found.is parts.0 in
    let there : slice_get levels n ≡ Some found.level = ap (slice_get levels) (sym offset) ∙ found.there in
    record {
      level = level ∙ ap (λ k. Some k) (sym parts.0);
      within = slice_get_within levels n found.level there;
      at = ap (λ ids. slice_get ids p) (ap (λ o. option_map_or (λ (l : Level). ids_of l.items) o []) there)
          ∙ at_position q found.level p (found.position_is ∙ ap (λ k. Some k) (sym parts.1));
    }
  where
    zero_plus : (offset m n : ℕ) → m ≡ 0 + offset → n ≡ m → offset ≡ n
    zero_plus offset m n e f = omega arith

pub stands : (levels : List Level) (q n p : ℕ) → IsSome (level_of_id levels q) → some_place n p ≡ place_of levels q → Stands levels q n p
stands levels q n p there place = by (level_of_id levels q) refl there
  where
    by : (o : Option ℕ) → level_of_id levels q ≡ o → IsSome o → Stands levels q n p
    by None is h = absurd (cc h)
    by (Some m) is h = stands_at levels q m n p is place

pub missing : (levels : List Level) (q : ℕ) → IsSome (level_of_id levels q) → place_of levels q ≡ None → ⊥
missing levels q there place = by (level_of_id levels q) refl there
  where
    by : (o : Option ℕ) → level_of_id levels q ≡ o → IsSome o → ⊥
    by None is h = cc h
    by (Some m) is h =
        let found : IsAt q 0 levels m = place_found q 0 levels m is in
        let never : some_place m found.at ≡ None = sym found.place_is ∙ place in
        cc
