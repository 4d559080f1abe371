-- Paths below a folder, and what stands at a place of a list.
use Rattle.std.proofs.Common.{◌≡◌, ◌≢◌, ℕ, suc, ◌+◌, ◌<◌, Bool, true, false, cond, ◌==◌, List, [], ◌∷◌, ◌++◌, length, drop, get_or, Option, None, Some, MatchOption, refl, sym, ◌∙◌, ap, eqb-true, drop-cons, add-one, arith}
use Rattle.std.proofs.lemmas.Bool.Decides.{nat_tests}
use denote.Ref.{Bor}
use Rattle.emu_io.specs.Folders.{behind}

equal_self : (x : ℕ) → (x == x) ≡ true
equal_self x = grind (arith, nat_tests)

-- behind a folder's own path a path goes on as behind no path
behind_append : (folder rest : List ℕ) → behind folder (folder ++ rest) ≡ behind [] rest
behind_append [] rest = refl
behind_append (x ∷ folder) rest = ap (λ b. cond b (behind folder (folder ++ rest)) None) (equal_self x) ∙ behind_append folder rest

none_if : (x y : ℕ) (folder path : List ℕ) → ((rest : List ℕ) → y ∷ path ≢ x ∷ folder ++ rest) → (((rest : List ℕ) → path ≢ folder ++ rest) → behind folder path ≡ None)
    → (b : Bool) → (x == y) ≡ b → cond b (behind folder path) None ≡ None
none_if x y folder path lacks none true is =
    none (λ rest e. lacks rest (ap (λ z. z ∷ path) (sym (eqb-true x y is)) ∙ ap (λ zs. x ∷ zs) e))
none_if x y folder path lacks none false is = refl

-- a path that does not begin with a folder's leads to nothing below it
pub behind_none : (folder path : List ℕ) → ((rest : List ℕ) → path ≢ folder ++ rest) → behind folder path ≡ None
behind_none [] path lacks = absurd (lacks path refl)
behind_none (x ∷ folder) [] lacks = refl
behind_none (x ∷ folder) (y ∷ path) lacks = none_if x y folder path lacks (behind_none folder path) (x == y) refl

-- one that goes on without a slash neither
no_slash_if : (y : ℕ) (path : List ℕ) → ((rest : List ℕ) → y ∷ path ≢ 47 ∷ rest) → (b : Bool) → (y == 47) ≡ b → cond b (Some path) None ≡ None
no_slash_if y path lacks true is = absurd (lacks path (ap (λ z. z ∷ path) (eqb-true y 47 is)))
no_slash_if y path lacks false is = refl

no_slash : (rest : List ℕ) → ((more : List ℕ) → rest ≢ 47 ∷ more) → behind [] rest ≡ None
no_slash [] lacks = refl
no_slash (y ∷ path) lacks = no_slash_if y path lacks (y == 47) refl

-- what is left of a path behind a folder and a slash, by what is left behind the folder
pub behind_slash : (folder path rest : List ℕ) (r : Option (Bor (List ℕ))) → path ≡ folder ++ rest
    → MatchOption r ((more : List ℕ) → rest ≢ 47 ∷ more) (λ x. rest ≡ 47 ∷ x.now)
    → MatchOption r (behind folder path ≡ None) (λ x. behind folder path ≡ Some x.now)
behind_slash folder path rest None is lacks = ap (behind folder) is ∙ behind_append folder rest ∙ no_slash rest lacks
behind_slash folder path rest (Some x) is goes = ap (behind folder) is ∙ behind_append folder rest ∙ ap (behind []) goes

-- the rest of a list at a place
pub rest_at : {A : Type 0} (xs : List A) (i : ℕ) (x : A) → i < length xs → x ≡ get_or xs i x → drop i xs ≡ x ∷ drop (i + 1) xs
rest_at xs i x low is =
    drop-cons xs i x low ∙ ap (λ y. y ∷ drop (suc i) xs) (sym is) ∙ ap (λ n. x ∷ drop n xs) (sym (add-one i))
