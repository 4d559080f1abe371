-- Where an item of an id stands.
use Rattle.std.proofs.Common.{◌≡◌, ℕ, suc, ◌+◌, ◌<◌, Bool, true, false, not, ◌||◌, cond, nat_lt, is_some, List, [], ◌∷◌, take, drop, get_or, length, nat_eq, refl, sym, ap, ◌∙◌, Some, None, arith}
use Rattle.std.specs.List.{list_any, slice_get, position, position_or_len}
use Rattle.std.proofs.lemmas.Bool.{or_parts, eq-eqb, eqb-true}
use Rattle.std.proofs.lemmas.Option.{slice_get_read}
use Rattle.std.proofs.lemmas.Bool.Decides.{nat_tests}
use Rattle.std.proofs.lemmas.List.Folds.{list_any-append}
use Rattle.level_items.specs.declared.items.Item.{Item}
use Rattle.level_items.specs.Levels.{ids_of, are_different}
use Rattle.level_items.proofs.Lists.{different_without, around, position_is, position_none}
use Rattle.level_items.proofs.Rules.{ids_parts}

abbrev pub has_id : ℕ → Item → Bool
has_id n item = nat_eq item.id.0 n

any_has : (n : ℕ) (items : List Item) → list_any (has_id n) items ≡ list_any (nat_eq n) (ids_of items)
any_has n [] = refl
any_has n (x ∷ xs) = ap (λ b. b || list_any (has_id n) xs) (flip x.id.0 n) ∙ ap (λ b. nat_eq n x.id.0 || b) (any_has n xs)
  where
    flip : (a b : ℕ) → nat_eq a b ≡ nat_eq b a
    flip a b = grind (arith, nat_tests)

pub found : (items : List Item) (i : ℕ) (x : Item) (n : ℕ) → are_different (ids_of items) ≡ true → slice_get items i ≡ Some x → x.id.0 ≡ n →
    Some i ≡ position (has_id n) items
found items i x n different at same =
    let whole = ap ids_of (sym (around items i x at)) ∙ ids_parts (take i items) x (drop (suc i) items) in
    let apart = different_without (ids_of (take i items)) x.id.0 (ids_of (drop (suc i) items)) (sym (ap are_different whole) ∙ different) in
    let none : list_any (nat_eq x.id.0) (ids_of (take i items)) ≡ false =
    (or_parts (list_any (nat_eq x.id.0) (ids_of (take i items))) (list_any (nat_eq x.id.0) (ids_of (drop (suc i) items)))
    (sym (list_any-append (nat_eq x.id.0) (ids_of (take i items)) (ids_of (drop (suc i) items))) ∙ apart.1)).0 in
    let before : list_any (has_id n) (take i items) ≡ false =
    any_has n (take i items) ∙ ap (λ m. list_any (nat_eq m) (ids_of (take i items))) (sym same) ∙ none in
    sym (position_is (has_id n) items i x at (eq-eqb x.id.0 n same) before)

pub absent : (items : List Item) (n : ℕ) → list_any (nat_eq n) (ids_of items) ≡ false → None ≡ position (has_id n) items
absent items n none = sym (position_none (has_id n) items (any_has n items ∙ none))

-- an item that was read at a place
pub found_at : (items : List Item) (i n : ℕ) (x : Item) → are_different (ids_of items) ≡ true → i < length items → x ≡ get_or items i x → true ≡ nat_eq x.id.0 n →
    Some i ≡ position (has_id n) items
found_at items i n x different within here same =
    found items i x n different (slice_get_read items (length items) i x refl within here) (eqb-true x.id.0 n (sym same))

-- a place is found exactly where an item has the id
within_is : {A : Type 0} (p : A → Bool) (xs : List A) → nat_lt (position_or_len p xs) (length xs) ≡ list_any p xs
within_is p [] = refl
within_is p (x ∷ xs) = by_test (p x) refl (within_is p xs)
  where
    first : (n : ℕ) → nat_lt 0 (suc n) ≡ true
    first n = grind (arith, nat_tests)

    next : (m n : ℕ) → nat_lt (1 + m) (suc n) ≡ nat_lt m n
    next m n = grind (arith, nat_tests)

    by_test : (t : Bool) → p x ≡ t → nat_lt (position_or_len p xs) (length xs) ≡ list_any p xs → nat_lt (position_or_len p (x ∷ xs)) (length (x ∷ xs)) ≡ list_any p (x ∷ xs)
    by_test true e rest =
        ap (λ b. nat_lt (cond (not b) (1 + position_or_len p xs) 0) (suc (length xs))) e ∙ first (length xs)
        ∙ sym (ap (λ b. b || list_any p xs) e)
    by_test false e rest =
        ap (λ b. nat_lt (cond (not b) (1 + position_or_len p xs) 0) (suc (length xs))) e ∙ next (position_or_len p xs) (length xs)
        ∙ rest ∙ sym (ap (λ b. b || list_any p xs) e)

pub is_found : (items : List Item) (n : ℕ) → is_some (position (has_id n) items) ≡ list_any (nat_eq n) (ids_of items)
is_found items n =
    some_where (nat_lt (position_or_len (has_id n) items) (length items)) (position_or_len (has_id n) items)
    ∙ within_is (has_id n) items ∙ any_has n items
  where
    some_where : (b : Bool) (i : ℕ) → is_some (cond b (Some i) None) ≡ b
    some_where true i = refl
    some_where false i = refl
