-- An item that is looked for at a position first.
use Rattle.std.proofs.Common.{◌≡◌, ℕ, zero, suc, true, false, not, List, [], ◌∷◌, refl, sym, ap, ◌∙◌, Option, Some, None, option_map, subst}
use Rattle.std.specs.List.{slice_get}
use Rattle.std.specs.Option.{option_map_or}
use Rattle.std.proofs.lemmas.Bool.{and_parts, not-true}
use Rattle.std.proofs.lemmas.Option.{slice_get-map}
use Rattle.level_items.specs.declared.items.Item.{Item}
use Rattle.level_items.specs.Levels.{Level, ids_of, are_different}
use Rattle.bundle_state.specs.Bundle.{all_ids, level_of_id, place_of}
use Rattle.hier_closure.specs.Dominance.{ids_at}
use Rattle.hier_closure.proofs.Ids.{is_in, level_is, ids_different, Stands, some_place, stands, missing}
use Rattle.hier_closure.proofs.Joins.{is_there, is_some_at}

same_place : (xs : List ℕ) (p r q : ℕ) → are_different xs ≡ true → slice_get xs p ≡ Some q → slice_get xs r ≡ Some q → p ≡ r
same_place [] p r q apart at again = absurd cc
same_place (x ∷ xs) zero zero q apart at again = refl
same_place (x ∷ xs) zero (suc r) q apart at again =
    let own : x ≡ q = cc in
    let out : is_in x xs ≡ false = not-true _ (and_parts (not (is_in x xs)) (are_different xs) apart).0 in
    let there : is_in x xs ≡ true = ap (λ n. is_in n xs) own ∙ is_there xs r q again in
    absurd cc
same_place (x ∷ xs) (suc p) zero q apart at again =
    let own : x ≡ q = cc in
    let out : is_in x xs ≡ false = not-true _ (and_parts (not (is_in x xs)) (are_different xs) apart).0 in
    let there : is_in x xs ≡ true = ap (λ n. is_in n xs) own ∙ is_there xs p q at in
    absurd cc
same_place (x ∷ xs) (suc p) (suc r) q apart at again =
    ap (λ k. suc k) (same_place xs p r q (and_parts (not (is_in x xs)) (are_different xs) apart).1 at again)

same_level : (n m : ℕ) (o : Option ℕ) → o ≡ Some n → o ≡ Some m → n ≡ m
same_level n m o p q = cc

-- an id that stands at a position of a level has this place
pub near_place : (levels : List Level) (n p q : ℕ) → are_different (all_ids levels) ≡ true → slice_get (ids_at levels n) p ≡ Some q →
    some_place n p ≡ place_of levels q
near_place levels n p q apart at = by (place_of levels q) refl
  where
    level : level_of_id levels q ≡ Some n
    level = level_is levels n q apart (is_there (ids_at levels n) p q at)

    by : (o : Option (ℕ × ℕ)) → place_of levels q ≡ o → some_place n p ≡ o
    by None is = absurd (missing levels q (is_some_at (level_of_id levels q) n level) is)
    by (Some place) is =
        let found : Stands levels q place.0 place.1 =
        stands levels q place.0 place.1 (is_some_at (level_of_id levels q) n level) (sym is) in
        let same : place.0 ≡ n = same_level place.0 n (level_of_id levels q) found.level level in
        let spot : place.1 ≡ p =
        same_place (ids_at levels n) place.1 p q (ids_different levels n apart)
        (subst (λ k. slice_get (ids_at levels k) place.1 ≡ Some q) same found.at) at in
        ap (λ m. some_place m p) (sym same) ∙ ap (λ r. some_place place.0 r) (sym spot)

-- the id of an item that stands at a position of a level
pub id_there : (levels : List Level) (n p : ℕ) (level : Level) (items : List Item) (item : Item) (q : ℕ) → slice_get levels n ≡ Some level →
    items ≡ level.items → slice_get items p ≡ Some item → item.id.0 ≡ q → slice_get (ids_at levels n) p ≡ Some q
id_there levels n p level items item q at same there is =
    ap (λ o. slice_get (option_map_or (λ (l : Level). ids_of l.items) o []) p) at
    ∙ slice_get-map (λ (i : Item). i.id.0) level.items p
    ∙ ap (λ xs. option_map (λ (i : Item). i.id.0) (slice_get xs p)) (sym same)
    ∙ ap (option_map (λ (i : Item). i.id.0)) there
    ∙ ap (λ (k : ℕ). Some k) is
