-- A name stands twice exactly where the names are not distinct.
use Rattle.std.proofs.Common.{◌≡◌, ℕ, Bool, true, false, not, ◌&&◌, ◌||◌, cond, List, [], ◌∷◌, ◌++◌, length, take, drop, refl, sym, ap, ◌∙◌, Option, Some, None, is_none}
use Rattle.std.specs.List.{list_any}
use Rattle.std.proofs.lemmas.List.Folds.{list_any-append}
use Rattle.std.proofs.lemmas.Cmp.{nat_list_eq_equiv}
use Rattle.std.proofs.Math.Seq.{take-append_seam, drop-append_seam}
use Rattle.db_config.specs.Names.{first_double, are_distinct}
use Rattle.emu_names.specs.Texts.{same_text}
use Rattle.db_config.specs.Laws.{DoublesAreFound}

-- none of the names is among those seen
abbrev away : List (List ℕ) → List (List ℕ) → Bool
away seen [] = true
away seen (n ∷ ns) = not (list_any (same_text n) seen) && away seen ns

flip_and : (a b c d : Bool) → (((a && b) && c) && d) ≡ (a && (c && (b && d)))
flip_and true true true d = refl
flip_and true true false d = refl
flip_and true false true d = refl
flip_and true false false d = refl
flip_and false b c d = refl

not_or : (a b : Bool) → not (a || b) ≡ (not a && not b)
not_or true b = refl
not_or false b = refl

or_none : (a : Bool) → (a || false) ≡ a
or_none true = refl
or_none false = refl

-- what is away from the names seen and one more
away_more : (seen : List (List ℕ)) (n : List ℕ) (ns : List (List ℕ)) →
    away (seen ++ n ∷ []) ns ≡ (not (list_any (same_text n) ns) && away seen ns)
away_more seen n [] = refl
away_more seen n (m ∷ ns) =
    ap (λ b. not b && away (seen ++ n ∷ []) ns) (list_any-append (same_text m) seen (n ∷ []) ∙ ap (λ b. list_any (same_text m) seen || b) (or_none (same_text m n)))
    ∙ ap (λ b. not (list_any (same_text m) seen || same_text m n) && b) (away_more seen n ns)
    ∙ ap (λ b. not (list_any (same_text m) seen || b) && (not (list_any (same_text n) ns) && away seen ns)) (nat_list_eq_equiv.symm m n)
    ∙ ap (λ b. b && (not (list_any (same_text n) ns) && away seen ns)) (not_or (list_any (same_text m) seen) (same_text n m))
    ∙ turn (not (list_any (same_text m) seen)) (not (same_text n m)) (not (list_any (same_text n) ns)) (away seen ns)
    ∙ ap (λ b. b && (not (list_any (same_text m) seen) && away seen ns)) (sym (not_or (same_text n m) (list_any (same_text n) ns)))
  where
    turn : (a b c d : Bool) → ((a && b) && (c && d)) ≡ ((b && c) && (a && d))
    turn true true true d = refl
    turn true true false d = refl
    turn true false c d = refl
    turn false true true d = refl
    turn false true false d = refl
    turn false false c d = refl

swap_in : (a b c : Bool) → ((a && b) && c) ≡ (b && (a && c))
swap_in true true c = refl
swap_in true false c = refl
swap_in false true c = refl
swap_in false false c = refl

doubles : (seen names : List (List ℕ)) → is_none (first_double seen names) ≡ (away seen names && are_distinct names)
doubles seen [] = refl
doubles seen (n ∷ ns) = by_test (list_any (same_text n) seen) (doubles (seen ++ n ∷ []) ns)
  where
    by_test : (b : Bool) → is_none (first_double (seen ++ n ∷ []) ns) ≡ (away (seen ++ n ∷ []) ns && are_distinct ns) →
        is_none (cond b (Some n) (first_double (seen ++ n ∷ []) ns)) ≡ ((not b && away seen ns) && (not (list_any (same_text n) ns) && are_distinct ns))
    by_test true rest = refl
    by_test false rest =
        rest
        ∙ ap (λ b. b && are_distinct ns) (away_more seen n ns)
        ∙ swap_in (not (list_any (same_text n) ns)) (away seen ns) (are_distinct ns)

away_nothing : (names : List (List ℕ)) → away [] names ≡ true
away_nothing [] = refl
away_nothing (n ∷ ns) = away_nothing ns

pub doubles_found : DoublesAreFound
doubles_found names = doubles [] names ∙ ap (λ b. b && are_distinct names) (away_nothing names)

-- without a double the names are distinct
pub no_double : (names : List (List ℕ)) (found : Option (List ℕ)) → found ≡ first_double [] names → found ≡ None → are_distinct names ≡ true
no_double names found is none = sym (doubles_found names) ∙ ap is_none (sym is ∙ none)

-- the first double behind a list of names
pub behind_names : (found : Option (List ℕ)) (all own both : List (List ℕ)) (count : ℕ) → both ≡ all ++ own → count ≡ length all → found ≡ first_double (take count both) (drop count both) →
    found ≡ first_double all own
behind_names found all own both count is size answer =
    answer
    ∙ ap (λ n. first_double (take n both) (drop n both)) size
    ∙ ap (λ ns. first_double (take (length all) ns) (drop (length all) ns)) is
    ∙ ap (λ ns. first_double ns (drop (length all) (all ++ own))) (take-append_seam all own)
    ∙ ap (first_double all) (drop-append_seam all own)
