-- Tests of texts and lists, and lists of numbers of which none is in the other.
use Rattle.std.proofs.Common.{◌≡◌, ℕ, Bool, true, false, cond, not, List, [], ◌∷◌, ◌++◌, Option, Some, None, nat_eq, refl, sym, ◌∙◌, ap, eq-eqb, eqb-true}
use Rattle.std.specs.List.{list_any, list_all}
use Rattle.std.proofs.lemmas.Bool.{false≢true, not-true, not_from_false, and_parts, and_from, or_parts, or_from, ne_eqb, eqb-false}
use Rattle.emu_names.specs.declared.rules.Broken.{Broken}
use Rattle.level_items.specs.Levels.{are_different}
use Rattle.std.specs.Option.{option_or}
use Rattle.emu_names.specs.Texts.{same_text}

-- P holds of each element
abbrev pub Each : {A : Type 0} → (A → Type 0) → List A → Type 0
Each P [] = Unit {0}
Each P (x ∷ xs) = P x × Each P xs

pub each_map : {A : Type 0} (P Q : A → Type 0) → ((x : A) → P x → Q x) → (xs : List A) → Each P xs → Each Q xs
each_map P Q f [] each = tt
each_map P Q f (x ∷ xs) each = (f x each.0, each_map P Q f xs each.1)

-- Texts.

pub text_true : (a b : List ℕ) → same_text a b ≡ true → a ≡ b
text_true [] [] same = refl
text_true [] (y ∷ ys) same = absurd (false≢true same)
text_true (x ∷ xs) [] same = absurd (false≢true same)
text_true (x ∷ xs) (y ∷ ys) same =
    let parts : (nat_eq x y ≡ true) × (same_text xs ys ≡ true) = and_parts (nat_eq x y) (same_text xs ys) same in
    ap (λ (k : ℕ). k ∷ xs) (eqb-true x y parts.0) ∙ ap (λ (ks : List ℕ). y ∷ ks) (text_true xs ys parts.1)

pub text_same : (a : List ℕ) → same_text a a ≡ true
text_same [] = refl
text_same (x ∷ xs) = and_from (nat_eq x x) (same_text xs xs) (eq-eqb x x refl) (text_same xs)

-- a text that differs from one differs from an equal one
pub text_apart : (a b c : List ℕ) → a ≡ b → same_text b c ≡ false → same_text a c ≡ false
text_apart a b c same apart = ap (λ (k : List ℕ). same_text k c) same ∙ apart

-- Tests that pass, and faults that are not there.

pub some_none : {A : Type 0} (x : A) → Some x ≡ None → ⊥
some_none x e = cc

pub or_none : (a b : Option Broken) → option_or a b ≡ None → (a ≡ None) × (b ≡ None)
or_none None b e = (refl, e)
or_none (Some r) b e = absurd (some_none r e)

pub cond_none : (b : Bool) (r : Broken) (rest : Option Broken) → cond b (Some r) rest ≡ None → (b ≡ false) × (rest ≡ None)
cond_none false r rest e = (refl, e)
cond_none true r rest e = absurd (some_none r e)

pub cond_some : (b : Bool) (r : Broken) → cond b None (Some r) ≡ None → b ≡ true
cond_some true r e = refl
cond_some false r e = absurd (some_none r e)

pub any_append : {A : Type 0} (test : A → Bool) (xs ys : List A) → list_any test (xs ++ ys) ≡ false → (list_any test xs ≡ false) × (list_any test ys ≡ false)
any_append test [] ys e = (refl, e)
any_append test (x ∷ xs) ys e =
    let parts : (test x ≡ false) × (list_any test (xs ++ ys) ≡ false) = or_parts (test x) (list_any test (xs ++ ys)) e in
    let rest : (list_any test xs ≡ false) × (list_any test ys ≡ false) = any_append test xs ys parts.1 in
    (or_from (test x) (list_any test xs) parts.0 rest.0, rest.1)

pub append_any : {A : Type 0} (test : A → Bool) (xs ys : List A) → list_any test xs ≡ false → list_any test ys ≡ false → list_any test (xs ++ ys) ≡ false
append_any test [] ys left right = right
append_any test (x ∷ xs) ys left right =
    let parts : (test x ≡ false) × (list_any test xs ≡ false) = or_parts (test x) (list_any test xs) left in
    or_from (test x) (list_any test (xs ++ ys)) parts.0 (append_any test xs ys parts.1 right)

pub any_none : {A : Type 0} (test : A → Bool) (xs : List A) → Each (λ x. test x ≡ false) xs → list_any test xs ≡ false
any_none test [] each = refl
any_none test (x ∷ xs) each = or_from (test x) (list_any test xs) each.0 (any_none test xs each.1)

pub any_each : {A : Type 0} (test : A → Bool) (xs : List A) → list_any test xs ≡ false → Each (λ x. test x ≡ false) xs
any_each test [] e = tt
any_each test (x ∷ xs) e =
    let parts : (test x ≡ false) × (list_any test xs ≡ false) = or_parts (test x) (list_any test xs) e in
    (parts.0, any_each test xs parts.1)

pub all_each : {A : Type 0} (test : A → Bool) (xs : List A) → list_all test xs ≡ true → Each (λ x. test x ≡ true) xs
all_each test [] e = tt
all_each test (x ∷ xs) e =
    let parts : (test x ≡ true) × (list_all test xs ≡ true) = and_parts (test x) (list_all test xs) e in
    (parts.0, all_each test xs parts.1)

pub eqb_flip : (a b : ℕ) → nat_eq a b ≡ false → nat_eq b a ≡ false
eqb_flip a b apart = ne_eqb b a (λ same. eqb-false a b apart (sym same))

-- Lists of numbers of which none is in the other.

-- no number of the second list is in the first
abbrev pub Misses : List ℕ → List ℕ → Type 0
Misses xs ys = Each (λ k. list_any (nat_eq k) xs ≡ false) ys

pub misses_flip : (xs ys : List ℕ) → Misses xs ys → Misses ys xs
misses_flip [] ys misses = tt
misses_flip (x ∷ xs) ys misses = (
  any_none (nat_eq x) ys (each_map (λ k. list_any (nat_eq k) (x ∷ xs) ≡ false) (λ k. nat_eq x k ≡ false) (λ k e. eqb_flip k x (or_parts (nat_eq k x) (list_any (nat_eq k) xs) e).0) ys misses),
  misses_flip xs ys (each_map (λ k. list_any (nat_eq k) (x ∷ xs) ≡ false) (λ k. list_any (nat_eq k) xs ≡ false) (λ k e. (or_parts (nat_eq k x) (list_any (nat_eq k) xs) e).1) ys misses),
)

pub misses_left : (xs zs ys : List ℕ) → Misses (xs ++ zs) ys → Misses xs ys
misses_left xs zs ys misses = each_map (λ k. list_any (nat_eq k) (xs ++ zs) ≡ false) (λ k. list_any (nat_eq k) xs ≡ false) (λ k e. (any_append (nat_eq k) xs zs e).0) ys misses

pub misses_right : (xs zs ys : List ℕ) → Misses (xs ++ zs) ys → Misses zs ys
misses_right xs zs ys misses = each_map (λ k. list_any (nat_eq k) (xs ++ zs) ≡ false) (λ k. list_any (nat_eq k) zs ≡ false) (λ k e. (any_append (nat_eq k) xs zs e).1) ys misses

pub each_two : {A : Type 0} (P Q R : A → Type 0) → ((x : A) → P x → Q x → R x) → (xs : List A) → Each P xs → Each Q xs → Each R xs
each_two P Q R f [] ps qs = tt
each_two P Q R f (x ∷ xs) ps qs = (f x ps.0 qs.0, each_two P Q R f xs ps.1 qs.1)

pub misses_both : (xs zs ys : List ℕ) → Misses xs ys → Misses zs ys → Misses (xs ++ zs) ys
misses_both xs zs ys left right =
    each_two (λ k. list_any (nat_eq k) xs ≡ false) (λ k. list_any (nat_eq k) zs ≡ false) (λ k. list_any (nat_eq k) (xs ++ zs) ≡ false) (λ k a b. append_any (nat_eq k) xs zs a b) ys left right

pub misses_nothing : (ys : List ℕ) → Misses [] ys
misses_nothing [] = tt
misses_nothing (y ∷ ys) = (refl, misses_nothing ys)

pub different_cons : (x : ℕ) (xs : List ℕ) → list_any (nat_eq x) xs ≡ false → are_different xs ≡ true → are_different (x ∷ xs) ≡ true
different_cons x xs fresh rest = and_from (not (list_any (nat_eq x) xs)) (are_different xs) (not_from_false (list_any (nat_eq x) xs) fresh) rest

pub different_append : (xs ys : List ℕ) → are_different xs ≡ true → are_different ys ≡ true → Misses ys xs → are_different (xs ++ ys) ≡ true
different_append [] ys left right misses = right
different_append (x ∷ xs) ys left right misses =
    let parts : (not (list_any (nat_eq x) xs) ≡ true) × (are_different xs ≡ true) = and_parts (not (list_any (nat_eq x) xs)) (are_different xs) left in
    different_cons x (xs ++ ys) (append_any (nat_eq x) xs ys (not-true (list_any (nat_eq x) xs) parts.0) misses.0) (different_append xs ys parts.1 right misses.1)
