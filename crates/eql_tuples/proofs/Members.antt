-- The members and the order of sets of tuples.
use Rattle.std.proofs.Common.{◌≡◌, ℕ, Bool, true, false, cond, ◌||◌, ◌&&◌, List, [], ◌∷◌, map, Option, None, Some, refl, sym, ap, ◌∙◌}
use Rattle.std.specs.Prelude.{All}
use Rattle.std.specs.List.{filter, flat_map, list_any, AllByRecursion}
use Rattle.std.specs.List.Sorted.{IsStrictlySortedBy}
use Rattle.std.specs.Option.{option_cmp}
use Rattle.std.specs.Cmp.{IsTotalOrder, then_total, on_total, nat_cmp_total}
use Rattle.std.specs.Cmp.Lexicographic.{options_total}
use Rattle.std.specs.declared.cmp.Ordering.{Ordering}
use Rattle.std.specs.declared.cmp.Ordering.TheVariants.{Less, Equal, Greater}
use Rattle.std.specs.Ordering.{match_ordering, nat_cmp, ordering_then, ordering_reverse}
use Rattle.std.specs.BTreeMap.{is_at}
use Rattle.std.specs.BTreeSet.{insert_key}
use Rattle.std.proofs.lemmas.List.Concat.{flat_map-cons}
use Rattle.std.proofs.lemmas.List.Elements.{All-from_recursion, recursion_from_All, All-weaker}
use Rattle.std.proofs.lemmas.List.Folds.{list_any-append}
use Rattle.std.proofs.lemmas.Map.Lookups.{exact_unsigned, btree_set_from_contains}
use Rattle.std.proofs.lemmas.Map.Views.{All-insert_key}
use Rattle.eql_tuples.specs.declared.tuple.Tuple.{Tuple}
use Rattle.eql_tuples.specs.Sets.{tuple_cmp, has, put_all, each_once}
use Rattle.eql_tuples.specs.Tuples.{pairs_with, joined}

-- ---- the order of tuples

then_equal : (o p : Ordering) → ordering_then o p ≡ Equal → (o ≡ Equal) × (p ≡ Equal)
then_equal Less p e = absurd cc
then_equal Equal p e = (refl, e)
then_equal Greater p e = absurd cc

same_marks : (m n : Option ℕ) → option_cmp nat_cmp m n ≡ Equal → m ≡ n
same_marks None None e = refl
same_marks None (Some y) e = absurd cc
same_marks (Some x) None e = absurd cc
same_marks (Some x) (Some y) e = ap Some (exact_unsigned x y e)

pub same_tuple : (a b : Tuple) → tuple_cmp a b ≡ Equal → a ≡ b
same_tuple a b e =
    let front = then_equal (nat_cmp a.first b.first) (ordering_then (nat_cmp a.last b.last) (option_cmp nat_cmp a.mark b.mark)) e in
    let back = then_equal (nat_cmp a.last b.last) (option_cmp nat_cmp a.mark b.mark) front.1 in
    λ i. record {
      first = exact_unsigned a.first b.first front.0 i;
      last = exact_unsigned a.last b.last back.0 i;
      mark = same_marks a.mark b.mark back.1 i;
    }

pub tuples_total : IsTotalOrder tuple_cmp
tuples_total =
    then_total (on_total (λ (t : Tuple). t.first) nat_cmp_total)
    (then_total (on_total (λ (t : Tuple). t.last) nat_cmp_total) (on_total (λ (t : Tuple). t.mark) (options_total nat_cmp_total)))

-- ---- members

or_again : (a b : Bool) → (a || b) ≡ (a || (a || b))
or_again true b = refl
or_again false b = refl

or_swap : (a b c : Bool) → (a || (b || c)) ≡ (b || (a || c))
or_swap true true c = refl
or_swap true false c = refl
or_swap false true c = refl
or_swap false false c = refl

any_by : (f : Tuple → Bool) (o : Ordering) (t x : Tuple) (xs ys : List Tuple) → (o ≡ Equal → t ≡ x) →
    list_any f ys ≡ (f t || list_any f xs) →
    list_any f (match_ordering o (t ∷ x ∷ xs) (x ∷ xs) (x ∷ ys)) ≡ (f t || list_any f (x ∷ xs))
any_by f Less t x xs ys same rest = refl
any_by f Equal t x xs ys same rest =
    or_again (f x) (list_any f xs) ∙ ap (λ y. f y || list_any f (x ∷ xs)) (sym (same refl))
any_by f Greater t x xs ys same rest = ap (λ b. f x || b) rest ∙ or_swap (f x) (f t) (list_any f xs)

any_insert : (f : Tuple → Bool) (set : List Tuple) (t : Tuple) → list_any f (insert_key tuple_cmp set t) ≡ (f t || list_any f set)
any_insert f [] t = refl
any_insert f (x ∷ xs) t =
    any_by f (tuple_cmp t x) t x xs (insert_key tuple_cmp xs t) (same_tuple t x) (any_insert f xs t)

or_move : (a b c : Bool) → ((a || b) || c) ≡ (b || (a || c))
or_move true true c = refl
or_move true false c = refl
or_move false true c = refl
or_move false false c = refl

any_put : (f : Tuple → Bool) (set ts : List Tuple) → list_any f (put_all set ts) ≡ (list_any f set || list_any f ts)
any_put f set [] = or_none (list_any f set)
  where
    or_none : (b : Bool) → b ≡ (b || false)
    or_none true = refl
    or_none false = refl
any_put f set (t ∷ ts) =
    any_put f (insert_key tuple_cmp set t) ts ∙ ap (λ b. b || list_any f ts) (any_insert f set t)
    ∙ or_move (f t) (list_any f set) (list_any f ts)

pub any_once : (f : Tuple → Bool) (ts : List Tuple) → list_any f (each_once ts) ≡ list_any f ts
any_once f ts = any_put f [] ts

pub has_put : (set ts : List Tuple) (q : Tuple) → has (put_all set ts) q ≡ (has set q || has ts q)
has_put set ts q = any_put (is_at (tuple_cmp q)) set ts

pub has_once : (ts : List Tuple) (q : Tuple) → has (each_once ts) q ≡ has ts q
has_once ts q = any_once (is_at (tuple_cmp q)) ts

-- ---- joins

pair_by : (f : Tuple → Bool) (b : Bool) (r : Tuple) (make : Tuple → Tuple) (kept : List Tuple) →
    list_any f (map make (cond b (r ∷ kept) kept)) ≡ ((b && f (make r)) || list_any f (map make kept))
pair_by f true r make kept = refl
pair_by f false r make kept = refl

pairs_any : (f : Tuple → Bool) (goes : Tuple → Tuple → Bool) (make : Tuple → Tuple → Tuple) (l : Tuple) (rights : List Tuple) →
    list_any f (pairs_with goes make rights l) ≡ list_any (λ r. goes l r && f (make l r)) rights
pairs_any f goes make l [] = refl
pairs_any f goes make l (r ∷ rights) =
    pair_by f (goes l r) r (make l) (filter (goes l) rights)
    ∙ ap (λ b. (goes l r && f (make l r)) || b) (pairs_any f goes make l rights)

all_any : (f : Tuple → Bool) (goes : Tuple → Tuple → Bool) (make : Tuple → Tuple → Tuple) (rights lefts : List Tuple) →
    list_any f (flat_map (pairs_with goes make rights) lefts)
    ≡ list_any (λ l. list_any (λ r. goes l r && f (make l r)) rights) lefts
all_any f goes make rights [] = refl
all_any f goes make rights (l ∷ lefts) =
    ap (list_any f) (flat_map-cons (pairs_with goes make rights) l lefts)
    ∙ list_any-append f (pairs_with goes make rights l) (flat_map (pairs_with goes make rights) lefts)
    ∙ (λ i. pairs_any f goes make l rights i || all_any f goes make rights lefts i)

pub joined_any : (f : Tuple → Bool) (goes : Tuple → Tuple → Bool) (make : Tuple → Tuple → Tuple) (lefts rights : List Tuple) →
    list_any f (joined goes make lefts rights)
    ≡ list_any (λ l. list_any (λ r. goes l r && f (make l r)) rights) lefts
joined_any f goes make lefts rights =
    any_once f (flat_map (pairs_with goes make rights) lefts) ∙ all_any f goes make rights lefts

pub joined_has : (goes : Tuple → Tuple → Bool) (make : Tuple → Tuple → Tuple) (lefts rights : List Tuple) (q : Tuple) →
    has (joined goes make lefts rights) q
    ≡ list_any (λ l. list_any (λ r. goes l r && is_at (tuple_cmp q) (make l r)) rights) lefts
joined_has goes make lefts rights q = joined_any (is_at (tuple_cmp q)) goes make lefts rights

-- ---- order

abbrev Above : Tuple → Tuple → Type 0
Above x y = tuple_cmp x y ≡ Less

above_all : (x : Tuple) (xs : List Tuple) → AllByRecursion (Above x) xs → All (Above x) xs
above_all x xs h = All-from_recursion (Above x) xs h

turned : (t x : Tuple) → tuple_cmp t x ≡ Greater → tuple_cmp x t ≡ Less
turned t x e = tuples_total.antisymm x t ∙ ap ordering_reverse e

sorted_by : (o : Ordering) (t x : Tuple) (xs ys : List Tuple) → tuple_cmp t x ≡ o → IsStrictlySortedBy tuple_cmp (x ∷ xs) →
    (tuple_cmp t x ≡ Greater → All (Above x) ys) → IsStrictlySortedBy tuple_cmp ys →
    IsStrictlySortedBy tuple_cmp (match_ordering o (t ∷ x ∷ xs) (x ∷ xs) (x ∷ ys))
unfolding IsStrictlySortedBy
sorted_by Less t x xs ys is sorted above rest = (
  (
    is,
    recursion_from_All (Above t) xs
        (All-weaker (Above x) (Above t) (λ y less. tuples_total.trans t x y is less) xs (above_all x xs sorted.0)),
  ),
  sorted,
)
sorted_by Equal t x xs ys is sorted above rest = sorted
sorted_by Greater t x xs ys is sorted above rest = (recursion_from_All (Above x) ys (above is), rest)

pub sorted_insert : (set : List Tuple) (t : Tuple) → IsStrictlySortedBy tuple_cmp set → IsStrictlySortedBy tuple_cmp (insert_key tuple_cmp set t)
unfolding IsStrictlySortedBy
sorted_insert [] t sorted = (tt, tt)
sorted_insert (x ∷ xs) t sorted =
    sorted_by (tuple_cmp t x) t x xs (insert_key tuple_cmp xs t) refl sorted
    (λ greater. All-insert_key tuple_cmp t (Above x) xs (above_all x xs sorted.0) (turned t x greater))
    (sorted_insert xs t sorted.1)

put_sorted : (set ts : List Tuple) → IsStrictlySortedBy tuple_cmp set → IsStrictlySortedBy tuple_cmp (put_all set ts)
put_sorted set [] sorted = sorted
put_sorted set (t ∷ ts) sorted = put_sorted (insert_key tuple_cmp set t) ts (sorted_insert set t sorted)

pub nothing_sorted : IsStrictlySortedBy tuple_cmp []
unfolding IsStrictlySortedBy
nothing_sorted = tt

pub once_sorted : (ts : List Tuple) → IsStrictlySortedBy tuple_cmp (each_once ts)
once_sorted ts = put_sorted [] ts nothing_sorted

-- ---- lists with the same members make the same set

pub same_sorted : (xs ys : List Tuple) → IsStrictlySortedBy tuple_cmp xs → IsStrictlySortedBy tuple_cmp ys →
    ((q : Tuple) → has xs q ≡ has ys q) → xs ≡ ys
same_sorted xs ys left right same =
    btree_set_from_contains tuples_total (record { keys = xs }) (record { keys = ys }) left right
    (λ q. same q) same_tuple

pub same_once : (xs ys : List Tuple) → ((q : Tuple) → has xs q ≡ has ys q) → each_once xs ≡ each_once ys
same_once xs ys same =
    same_sorted (each_once xs) (each_once ys) (once_sorted xs) (once_sorted ys)
    (λ q. has_once xs q ∙ same q ∙ sym (has_once ys q))

-- a list in order is its own set
pub once_is : (ts : List Tuple) → IsStrictlySortedBy tuple_cmp ts → each_once ts ≡ ts
once_is ts sorted = same_sorted (each_once ts) ts (once_sorted ts) sorted (has_once ts)
