-- What is put into a set part by part.
use Rattle.std.proofs.Common.{◌≡◌, ℕ, ◌+◌, ◌<◌, ◌≤◌, Bool, true, false, List, [], ◌∷◌, ◌++◌, length, drop, get_or, refl, sym, cond, ap, ◌∙◌, arith}
use Rattle.std.specs.Prelude.{map}
use Rattle.std.specs.List.{filter}
use Rattle.std.specs.declared.cmp.Ordering.{Ordering}
use Rattle.std.specs.declared.cmp.Ordering.TheVariants.{Less, Equal, Greater}
use Rattle.std.specs.Ordering.{match_ordering}
use Rattle.std.specs.BTreeSet.{insert_key}
use Rattle.std.proofs.lemmas.List.{drop_more}
use Rattle.std.proofs.lemmas.Bool.Decides.{nat_tests}
use Rattle.eql_tuples.specs.declared.tuple.Tuple.{Tuple}
use Rattle.eql_tuples.specs.Sets.{tuple_cmp, put_all, is_over}
use Rattle.eql_tuples.specs.Tuples.{pairs_with}

pub put_all_parts : (set ts us : List Tuple) → put_all set (ts ++ us) ≡ put_all (put_all set ts) us
put_all_parts set [] us = refl
put_all_parts set (t ∷ ts) us = put_all_parts (insert_key tuple_cmp set t) ts us

longer_by : (o : Ordering) (t x : Tuple) (xs ys : List Tuple) → length xs ≤ length ys →
    length (x ∷ xs) ≤ length (match_ordering o (t ∷ x ∷ xs) (x ∷ xs) (x ∷ ys))
longer_by Less t x xs ys h = omega arith
longer_by Equal t x xs ys h = omega arith
longer_by Greater t x xs ys h = omega arith

insert_longer : (set : List Tuple) (t : Tuple) → length set ≤ length (insert_key tuple_cmp set t)
insert_longer [] t = omega arith
insert_longer (x ∷ xs) t = longer_by (tuple_cmp t x) t x xs (insert_key tuple_cmp xs t) (insert_longer xs t)

over_longer : (xs ys : List Tuple) → length xs ≤ length ys → is_over xs ≡ true → is_over ys ≡ true
over_longer xs ys h over = grind (arith, nat_tests)

pub over_stays : (set ts : List Tuple) → is_over set ≡ true → is_over (put_all set ts) ≡ true
over_stays set [] over = over
over_stays set (t ∷ ts) over =
    over_stays (insert_key tuple_cmp set t) ts (over_longer set (insert_key tuple_cmp set t) (insert_longer set t) over)

-- what is made of a list is what is made of its first element, in front of what is made of the others
abbrev pub MadeInTurn : {X : Type 0} → (List X → List Tuple) → (X → List Tuple) → Type 0
MadeInTurn {X} F f = (x : X) (xs : List X) → F (x ∷ xs) ≡ f x ++ F xs

at_place : {X : Type 0} (F : List X → List Tuple) (f : X → List Tuple) → MadeInTurn F f → (xs : List X) (i : ℕ) (d : X)
    (g : List Tuple) → i < length xs → put_all g (F (drop i xs)) ≡ put_all (put_all g (f (get_or xs i d))) (F (drop (i + 1) xs))
at_place F f turn xs i d g h =
    ap (λ zs. put_all g (F zs)) (drop_more xs i d h)
    ∙ ap (put_all g) (turn (get_or xs i d) (drop (i + 1) xs))
    ∙ put_all_parts g (f (get_or xs i d)) (F (drop (i + 1) xs))

pub gather_step : {X : Type 0} (F : List X → List Tuple) (f : X → List Tuple) → MadeInTurn F f → (xs : List X) (i : ℕ) (d : X)
    (g g' whole : List Tuple) → put_all g (F (drop i xs)) ≡ whole → i < length xs → g' ≡ put_all g (f (get_or xs i d)) →
    put_all g' (F (drop (i + 1) xs)) ≡ whole
gather_step F f turn xs i d g g' whole so_far h put =
    ap (λ s. put_all s (F (drop (i + 1) xs))) put ∙ sym (at_place F f turn xs i d g h) ∙ so_far

pub gather_over : {X : Type 0} (F : List X → List Tuple) (f : X → List Tuple) → MadeInTurn F f → (xs : List X) (i : ℕ) (d : X)
    (g whole : List Tuple) → put_all g (F (drop i xs)) ≡ whole → i < length xs →
    is_over (put_all g (f (get_or xs i d))) ≡ true → is_over whole ≡ true
gather_over F f turn xs i d g whole so_far h over =
    ap is_over (sym so_far ∙ at_place F f turn xs i d g h)
    ∙ over_stays (put_all g (f (get_or xs i d))) (F (drop (i + 1) xs)) over

pub pairs_in_turn : (goes : Tuple → Tuple → Bool) (make : Tuple → Tuple → Tuple) (left : Tuple) →
    MadeInTurn (λ rights. pairs_with goes make rights left) (λ right. pairs_with goes make (right ∷ []) left)
pairs_in_turn goes make left x xs =
    by_test (goes left x) (make left) x (filter (goes left) xs)
  where
    by_test : (b : Bool) (f : Tuple → Tuple) (x : Tuple) (kept : List Tuple) →
        map f (cond b (x ∷ kept) kept) ≡ map f (cond b (x ∷ []) []) ++ map f kept
    by_test true f x kept = refl
    by_test false f x kept = refl
