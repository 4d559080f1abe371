-- Steps of a loop along a list, and a set of ids that grows.
use Rattle.std.proofs.Common.{◌≡◌, ℕ, suc, ◌+◌, ◌<◌, Bool, true, false, ◌||◌, List, [], ◌∷◌, ◌++◌, length, get_or, take, drop, drop-cons, refl, sym, ap, ◌∙◌, add-one, cond, nat_eq}
use Rattle.std.proofs.lemmas.List.{take_more}
use Rattle.std.specs.List.{list_any}
use Rattle.std.proofs.lemmas.List.Folds.{list_any-append}
use Rattle.std.proofs.lemmas.Bool.Decides.{nat_tests}
use Rattle.std.proofs.Common.{arith}

-- the rest of a list at a place
pub drop_at : {A : Type 0} (xs : List A) (i : ℕ) (x : A) → i < length xs → x ≡ get_or xs i x → drop i xs ≡ x ∷ drop (i + 1) xs
drop_at xs i x low is =
    drop-cons xs i x low ∙ ap (λ y. y ∷ drop (suc i) xs) (sym is) ∙ ap (λ n. x ∷ drop n xs) (sym (add-one i))

-- the front of a list up to and with a place
pub take_at : {A : Type 0} (xs : List A) (i : ℕ) (x : A) → i < length xs → x ≡ get_or xs i x → take (i + 1) xs ≡ take i xs ++ x ∷ []
take_at xs i x low is = take_more xs i x low ∙ ap (λ y. take i xs ++ y ∷ []) (sym is)

-- an id more in a set of ids
pub id_more : (xs ys : List ℕ) (id q : ℕ) →
    list_any (nat_eq q) ys ≡ cond (nat_eq id q) true (list_any (nat_eq q) xs) →
    list_any (nat_eq q) ys ≡ list_any (nat_eq q) (xs ++ id ∷ [])
id_more xs ys id q h = h ∙ last (nat_eq id q) (nat_eq q id) (list_any (nat_eq q) xs) (alike id q) ∙ sym (list_any-append (nat_eq q) xs (id ∷ []))
  where
    alike : (a b : ℕ) → nat_eq a b ≡ nat_eq b a
    alike a b = grind (arith, nat_tests)

    last : (a b there : Bool) → a ≡ b → cond a true there ≡ (there || (b || false))
    last true true true e = refl
    last true true false e = refl
    last false false true e = refl
    last false false false e = refl
    last true false there e = absurd cc
    last false true there e = absurd cc

pub drop_get : {A : Type 0} (xs : List A) (i : ℕ) (d : A) → i < length xs → drop i xs ≡ get_or xs i d ∷ drop (i + 1) xs
drop_get xs i d low = drop-cons xs i d low ∙ ap (λ n. get_or xs i d ∷ drop n xs) (sym (add-one i))
