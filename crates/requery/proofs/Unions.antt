-- The stretch round some positions, put together from those of parts.
use Rattle.std.proofs.Common.{◌≡◌, ℕ, zero, suc, ◌+◌, ◌<◌, Bool, true, false, cond, ◌||◌, ◌&&◌, List, [], ◌∷◌, ◌++◌, Option, None, Some, refl, sym, ap, ◌∙◌, arith, nat_le, nat_lt}
use Rattle.std.specs.Prelude.{min, max, nat_eq}
use Rattle.std.specs.List.{filter, list_any, range_with_len}
use Rattle.std.proofs.lemmas.Bool.Decides.{nat_tests}
use Rattle.std.proofs.lemmas.List.Elements.{filter-append}
use Rattle.eql_tuples.specs.declared.tuple.Tuple.{Tuple}
use Rattle.eql_tuples.specs.Shown.{bare}
use Rattle.eql_rows.specs.Rows.{least, greatest}
use Rattle.requery.specs.Reach.{whole_stretch}
use Rattle.requery.specs.Inner.Ways.{union, union_over, one_if}

-- ---- the least and the greatest

least_front : (n m : ℕ) (ms : List ℕ) → least (min n m) ms ≡ min n (least m ms)
least_front n m [] = refl
least_front n m (k ∷ ms) =
    let turned : min (min n m) k ≡ min n (min m k) = omega arith in
    ap (λ x. least x ms) turned ∙ least_front n (min m k) ms

greatest_front : (n m : ℕ) (ms : List ℕ) → greatest (max n m) ms ≡ max n (greatest m ms)
greatest_front n m [] = refl
greatest_front n m (k ∷ ms) =
    let turned : max (max n m) k ≡ max n (max m k) = omega arith in
    ap (λ x. greatest x ms) turned ∙ greatest_front n (max m k) ms

-- ---- stretches as parts of a larger one

pub whole_front : (k : ℕ) (ks : List ℕ) → whole_stretch (k ∷ ks) ≡ union (Some (bare k k)) (whole_stretch ks)
whole_front k [] = refl
whole_front k (m ∷ ms) = λ i. Some (bare (least_front k m ms i) (greatest_front k m ms i))

pub union_assoc : (a b c : Option Tuple) → union (union a b) c ≡ union a (union b c)
union_assoc None b c = refl
union_assoc (Some a) None c = refl
union_assoc (Some a) (Some b) None = refl
union_assoc (Some a) (Some b) (Some c) =
    let low : min (min a.first b.first) c.first ≡ min a.first (min b.first c.first) = omega arith in
    let high : max (max a.last b.last) c.last ≡ max a.last (max b.last c.last) = omega arith in
    λ i. Some (bare (low i) (high i))

union_comm : (a b : Option Tuple) → union a b ≡ union b a
union_comm None None = refl
union_comm None (Some b) = refl
union_comm (Some a) None = refl
union_comm (Some a) (Some b) =
    let low : min a.first b.first ≡ min b.first a.first = omega arith in
    let high : max a.last b.last ≡ max b.last a.last = omega arith in
    λ i. Some (bare (low i) (high i))

pub union_none : (a : Option Tuple) → union a None ≡ a
union_none None = refl
union_none (Some a) = refl

-- a position that counts twice counts once
once : (k : ℕ) (a : Option Tuple) → union (Some (bare k k)) (union (Some (bare k k)) a) ≡ union (Some (bare k k)) a
once k None =
    let low : min k k ≡ k = omega arith in
    let high : max k k ≡ k = omega arith in
    λ i. Some (bare (low i) (high i))
once k (Some a) =
    let low : min k (min k a.first) ≡ min k a.first = omega arith in
    let high : max k (max k a.last) ≡ max k a.last = omega arith in
    λ i. Some (bare (low i) (high i))

-- ---- the positions that pass one of two tests

left_one : (k : ℕ) (x y z : Option Tuple) → union x y ≡ z → union (union (Some (bare k k)) x) y ≡ union (Some (bare k k)) z
left_one k x y z both = union_assoc (Some (bare k k)) x y ∙ ap (union (Some (bare k k))) both

right_one : (k : ℕ) (x y z : Option Tuple) → union x y ≡ z → union x (union (Some (bare k k)) y) ≡ union (Some (bare k k)) z
right_one k x y z both =
    union_comm x (union (Some (bare k k)) y) ∙ left_one k y x z (union_comm y x ∙ both)

one_more : (p q : Bool) (k : ℕ) (xs ys zs : List ℕ) → union (whole_stretch xs) (whole_stretch ys) ≡ whole_stretch zs →
    union (whole_stretch (cond p (k ∷ xs) xs)) (whole_stretch (cond q (k ∷ ys) ys)) ≡ whole_stretch (cond (p || q) (k ∷ zs) zs)
one_more true true k xs ys zs both =
    (λ i. union (whole_front k xs i) (whole_front k ys i))
    ∙ left_one k (whole_stretch xs) (union (Some (bare k k)) (whole_stretch ys)) (union (Some (bare k k)) (whole_stretch zs))
    (right_one k (whole_stretch xs) (whole_stretch ys) (whole_stretch zs) both)
    ∙ once k (whole_stretch zs) ∙ sym (whole_front k zs)
one_more true false k xs ys zs both =
    ap (λ a. union a (whole_stretch ys)) (whole_front k xs)
    ∙ left_one k (whole_stretch xs) (whole_stretch ys) (whole_stretch zs) both ∙ sym (whole_front k zs)
one_more false true k xs ys zs both =
    ap (union (whole_stretch xs)) (whole_front k ys)
    ∙ right_one k (whole_stretch xs) (whole_stretch ys) (whole_stretch zs) both ∙ sym (whole_front k zs)
one_more false false k xs ys zs both = both

pub either_test : (p q : ℕ → Bool) (ks : List ℕ) →
    union (whole_stretch (filter p ks)) (whole_stretch (filter q ks)) ≡ whole_stretch (filter (λ k. p k || q k) ks)
either_test p q [] = refl
either_test p q (k ∷ ks) = one_more (p k) (q k) k (filter p ks) (filter q ks) (filter (λ j. p j || q j) ks) (either_test p q ks)

never : (ks : List ℕ) → whole_stretch (filter (λ k. false) ks) ≡ None
never [] = refl
never (k ∷ ks) = never ks

-- the positions that pass some of many tests
pub any_test : (p : ℕ → ℕ → Bool) (is ks : List ℕ) →
    union_over (λ i. whole_stretch (filter (p i) ks)) is ≡ whole_stretch (filter (λ k. list_any (λ i. p i k) is) ks)
any_test p [] ks = sym (never ks)
any_test p (i ∷ is) ks =
    ap (union (whole_stretch (filter (p i) ks))) (any_test p is ks) ∙ either_test (p i) (λ k. list_any (λ j. p j k) is) ks

-- ---- one position more

whole_both : (xs ys : List ℕ) → whole_stretch (xs ++ ys) ≡ union (whole_stretch xs) (whole_stretch ys)
whole_both [] ys = refl
whole_both (x ∷ xs) ys =
    whole_front x (xs ++ ys) ∙ ap (union (Some (bare x x))) (whole_both xs ys)
    ∙ sym (union_assoc (Some (bare x x)) (whole_stretch xs) (whole_stretch ys))
    ∙ ap (λ a. union a (whole_stretch ys)) (sym (whole_front x xs))

range_last : (a n : ℕ) → range_with_len a (suc n) ≡ range_with_len a n ++ (a + n) ∷ []
range_last a zero = let here : a ≡ a + 0 = omega arith in ap (λ k. k ∷ []) here
range_last a (suc n) =
    let e : a + 1 + n ≡ a + suc n = omega arith in
    ap (λ ks. a ∷ ks) (range_last (a + 1) n ∙ ap (λ k. range_with_len (a + 1) n ++ k ∷ []) e)

alone : (counts : Bool) (at : ℕ) → whole_stretch (cond counts (at ∷ []) []) ≡ one_if counts at
alone true at = refl
alone false at = refl

pub one_position : (p : ℕ → Bool) (n m : ℕ) → m ≡ n + 1 →
    whole_stretch (filter p (range_with_len 0 m)) ≡ union (whole_stretch (filter p (range_with_len 0 n))) (one_if (p n) n)
one_position p n m is =
    let more : m ≡ suc n = omega arith in
    let here : 0 + n ≡ n = omega arith in
    ap (λ j. whole_stretch (filter p (range_with_len 0 j))) more
    ∙ ap (λ ks. whole_stretch (filter p ks)) (range_last 0 n ∙ ap (λ k. range_with_len 0 n ++ k ∷ []) here)
    ∙ ap whole_stretch (filter-append p (range_with_len 0 n) (n ∷ []))
    ∙ whole_both (filter p (range_with_len 0 n)) (cond (p n) (n ∷ []) [])
    ∙ ap (union (whole_stretch (filter p (range_with_len 0 n)))) (alone (p n) n)
