-- What holds of each element of lists put together, and of filters of them.
use Rattle.std.proofs.Common.{◌≡◌, Bool, true, false, cond, List, [], ◌∷◌, ◌++◌, filter, flat_map, refl, ◌∙◌, ap}
use Rattle.session_core.specs.Worlds.{Each}

pub each_append : {A : Type 0} (P : A → Type 0) (xs ys : List A) → Each P xs → Each P ys → Each P (xs ++ ys)
each_append P [] ys here there = there
each_append P (x ∷ xs) ys here there = (here.0, each_append P xs ys here.1 there)

pub each_left : {A : Type 0} (P : A → Type 0) (xs ys : List A) → Each P (xs ++ ys) → Each P xs
each_left P [] ys each = tt
each_left P (x ∷ xs) ys each = (each.0, each_left P xs ys each.1)

pub each_right : {A : Type 0} (P : A → Type 0) (xs ys : List A) → Each P (xs ++ ys) → Each P ys
each_right P [] ys each = each
each_right P (x ∷ xs) ys each = each_right P xs ys each.1

pub each_last : {A : Type 0} (P : A → Type 0) (xs : List A) (x : A) → Each P (xs ++ x ∷ []) → P x
each_last P [] x each = each.0
each_last P (y ∷ xs) x each = each_last P xs x each.1

pub each_both : {A : Type 0} (P Q : A → Type 0) (xs : List A) → Each P xs → Each Q xs → Each (λ x. P x × Q x) xs
each_both P Q [] ps qs = tt
each_both P Q (x ∷ xs) ps qs = ((ps.0, qs.0), each_both P Q xs ps.1 qs.1)

-- of each list, so of all of them put together
pub each_flat : {A : Type 0} (P : A → Type 0) (xss : List (List A)) → Each (λ xs. Each P xs) xss → Each P (flat_map (λ xs. xs) xss)
each_flat P [] each = tt
each_flat P (xs ∷ xss) each = each_append P xs (flat_map (λ xs. xs) xss) each.0 (each_flat P xss each.1)

-- a test that no element passes keeps none
pub filter_none : {A : Type 0} (test : A → Bool) (xs : List A) → Each (λ x. test x ≡ false) xs → filter test xs ≡ []
filter_none test [] each = refl
filter_none test (x ∷ xs) each = ap (λ b. cond b (x ∷ filter test xs) (filter test xs)) each.0 ∙ filter_none test xs each.1

passes_cond : {A : Type 0} (test : A → Bool) (b : Bool) (x : A) (rest : List A) → test x ≡ b → Each (λ y. test y ≡ true) rest → Each (λ y. test y ≡ true) (cond b (x ∷ rest) rest)
passes_cond test true x rest is each = (is, each)
passes_cond test false x rest is each = each

-- what a filter keeps passes its test
pub filter_passes : {A : Type 0} (test : A → Bool) (xs : List A) → Each (λ x. test x ≡ true) (filter test xs)
filter_passes test [] = tt
filter_passes test (x ∷ xs) = passes_cond test (test x) x (filter test xs) refl (filter_passes test xs)
