-- The level and the position of an id, and what a map from ids to levels holds while it grows.
use Rattle.std.proofs.Common.{◌≡◌, ◌⊎◌, inl, inr, ℕ, suc, ◌+◌, ◌<◌, ◌≤◌, Bool, true, false, cond, ◌||◌, List, [], ◌∷◌, ◌++◌, length, take, drop, get_or, add-one, is_some, Option, Some, None, nat_eq, nat_lt, refl, sym, ◌∙◌, ap, arith, if◌then◌else◌, option_map}
use Rattle.std.specs.List.{list_any, position_or_len, slice_get}
use Rattle.std.specs.HashMap.{HashMap, IsClone}
use Rattle.std.specs.Map.{lookup}
use Rattle.std.specs.Option.{option_or, IfSome}
use Rattle.std.proofs.lemmas.Map.Entries.{entries_from_clone}
use Rattle.std.proofs.lemmas.Bool.{cond-true, eqb-true, lt-ltb}
use Rattle.std.proofs.lemmas.Bool.Decides.{nat_tests}
use Rattle.std.proofs.lemmas.List.{map-append}
use Rattle.std.proofs.lemmas.List.Folds.{list_any-append}
use Rattle.std.proofs.lemmas.Grind.{common_steps}
use Rattle.std.proofs.lemmas.Option.{slice_get_within}
use Rattle.level_items.specs.declared.items.Item.{Item}
use Rattle.level_items.specs.Levels.{Level, ids_of}
use Rattle.level_items.proofs.Found.{is_found}
use Rattle.level_items.proofs.Lists.{position_none}
use Rattle.bundle_state.specs.Inner.Placed.{level_in}
use Rattle.bundle_state.specs.Bundle.{has_id, level_from, level_of_id, position_on, place_from, place_of}
use Rattle.bundle_state.proofs.Walks.{drop_at, take_at}

-- A map that grows.

-- the level of an id, where it is among these
abbrev pub level_if : Bool → ℕ → Option ℕ
level_if there level = if there then Some level else None

pub put_step : (before now : Option ℕ) (q level : ℕ) (items : List Item) (i : ℕ) (item : Item) → i < length items → item ≡ get_or items i item →
    now ≡ option_or before (level_if (list_any (nat_eq q) (ids_of (take i items))) level) →
    option_or now (level_if (nat_eq q item.id.0) level) ≡ option_or before (level_if (list_any (nat_eq q) (ids_of (take (i + 1) items))) level)
put_step before now q level items i item low is now_is =
    ap (λ o. option_or o (level_if (nat_eq q item.id.0) level)) now_is
    ∙ by before (list_any (nat_eq q) (ids_of (take i items))) (nat_eq q item.id.0)
    ∙ ap (λ b. option_or before (level_if b level))
    (sym (ap (λ xs. list_any (nat_eq q) (ids_of xs)) (take_at items i item low is)
    ∙ ap (list_any (nat_eq q)) (map-append (λ (j : Item). j.id.0) (take i items) (item ∷ []))
    ∙ list_any-append (nat_eq q) (ids_of (take i items)) (item.id.0 ∷ [])))
  where
    by : (o : Option ℕ) (a b : Bool) → option_or (option_or o (level_if a level)) (level_if b level) ≡ option_or o (level_if (a || (b || false)) level)
    by (Some k) a b = refl
    by None true b = refl
    by None false true = refl
    by None false false = refl

level_from_push : (n q : ℕ) (levels : List Level) (level : Level) →
    level_from n q (levels ++ level ∷ []) ≡ option_or (level_from n q levels) (level_if (has_id q level) (n + length levels))
level_from_push n q [] level = by (has_id q level) n (n + 0) (omega arith)
  where
    by : (b : Bool) (k m : ℕ) → k ≡ m → cond b (Some k) None ≡ cond b (Some m) None
    by b k m e = ap (λ j. cond b (Some j) None) e
level_from_push n q (x ∷ levels) level =
    by (has_id q x) (level_from (suc n) q levels) (level_from (suc n) q (levels ++ level ∷ [])) (suc n + length levels) (n + suc (length levels)) (omega arith) (level_from_push (suc n) q levels level)
  where
    by : (b : Bool) (rest more : Option ℕ) (k m : ℕ) → k ≡ m → more ≡ option_or rest (level_if (has_id q level) k) →
        cond b (Some n) more ≡ option_or (cond b (Some n) rest) (level_if (has_id q level) m)
    by true rest more k m e h = refl
    by false rest more k m e h = h ∙ ap (λ j. option_or rest (level_if (has_id q level) j)) e

length_front : {A : Type 0} (i : ℕ) (xs : List A) → i ≤ length xs → length (take i xs) ≡ i
length_front i xs low = grind (arith, common_steps)

pub levels_step : (q : ℕ) (now new : Option ℕ) (levels : List Level) (i : ℕ) (level : Level) → i < length levels → level ≡ get_or levels i level →
    now ≡ level_of_id (take i levels) q → new ≡ option_or now (level_if (has_id q level) i) →
    new ≡ level_of_id (take (i + 1) levels) q
levels_step q now new levels i level low is now_is new_is =
    new_is ∙ ap (λ o. option_or o (level_if (has_id q level) i)) now_is
    ∙ ap (λ k. option_or (level_of_id (take i levels) q) (level_if (has_id q level) k)) (sym (length_front i levels (omega arith)))
    ∙ sym (level_from_push 0 q (take i levels) level ∙ ap (λ k. option_or (level_of_id (take i levels) q) (level_if (has_id q level) k)) (omega arith))
    ∙ ap (λ ls. level_of_id ls q) (sym (take_at levels i level low is))

-- the levels of a map that an owner may write are those from before
pub own_levels : {S : Type 0} (m x : HashMap ℕ ℕ S) → (x ≡ m) ⊎ IsClone (λ a b. b ≡ a) (λ a b. b ≡ a) m x → (q : ℕ) → level_in x q ≡ level_in m q
own_levels m x (inl same) q = ap (λ y. level_in y q) same
own_levels m x (inr same) q =
    ap (λ (es : List (ℕ × ℕ)). lookup (nat_eq q) es)
    (entries_from_clone (λ a b. b ≡ a) (λ a b. b ≡ a) (λ a b e. e) (λ a b e. e) m.entries x.entries same)

-- an id that had no level is taken out again
pub taken_back : (id level : ℕ) (new put old kept : ℕ → Option ℕ) → ((q : ℕ) → new q ≡ cond (nat_eq q id) None (put q)) →
    ((q : ℕ) → put q ≡ cond (nat_eq q id) (Some level) (old q)) → ((q : ℕ) → old q ≡ kept q) → kept id ≡ None → (q : ℕ) → new q ≡ kept q
taken_back id level new put old kept out in_ same free q = by (nat_eq q id) refl
  where
    by : (b : Bool) → nat_eq q id ≡ b → new q ≡ kept q
    by true e =
        out q ∙ ap (λ (b : Bool). cond b None (put q)) e ∙ sym free ∙ ap kept (sym (eqb-true q id e))
    by false e =
        out q ∙ ap (λ (b : Bool). cond b None (put q)) e ∙ in_ q ∙ ap (λ (b : Bool). cond b (Some level) (old q)) e ∙ same q

-- The place of an id.

ids_any : (q : ℕ) (items : List Item) → list_any (nat_eq q) (ids_of items) ≡ list_any (λ i. nat_eq i.id.0 q) items
ids_any q [] = refl
ids_any q (item ∷ items) = rw (flip q item.id.0, ids_any q items) refl
  where
    flip : (a b : ℕ) → nat_eq a b ≡ nat_eq b a
    flip a b = grind (arith, nat_tests)

within : {A : Type 0} (p : A → Bool) (xs : List A) → list_any p xs ≡ true → position_or_len p xs < length xs
within p [] any = cc
within p (x ∷ xs) any = by (p x) refl (λ h. within p xs h)
  where
    by : (b : Bool) → p x ≡ b → (list_any p xs ≡ true → position_or_len p xs < length xs) → position_or_len p (x ∷ xs) < suc (length xs)
    by true is rest = rw is (omega arith)
    by false is rest =
        let low : position_or_len p xs < length xs = rest (sym (ap (λ b. b || list_any p xs) is) ∙ any) in
        rw is (omega arith)

-- where an item with an id stands
pub record IsAt (q n : ℕ) (levels : List Level) (number : ℕ) : Type 0 where
  pub offset : ℕ
  pub is : number ≡ n + offset
  pub level : Level
  pub there : slice_get levels offset ≡ Some level
  pub at : ℕ
  pub position_is : position_on q level ≡ Some at
  pub place_is : place_from n q levels ≡ Some (number, at)

some_same : (x y : ℕ) → Some x ≡ Some y → x ≡ y
some_same x y e = cc

pub place_found : (q n : ℕ) (levels : List Level) (number : ℕ) → level_from n q levels ≡ Some number → IsAt q n levels number
place_found q n [] number found = cc
place_found q n (level ∷ levels) number found = by (has_id q level) refl (λ h. place_found q (suc n) levels number h) found
  where
    by : (b : Bool) → has_id q level ≡ b → (level_from (suc n) q levels ≡ Some number → IsAt q (suc n) levels number) →
        cond b (Some n) (level_from (suc n) q levels) ≡ Some number → IsAt q n (level ∷ levels) number
    by true there more found =
        let same : n ≡ number = some_same n number found in
        let at : ℕ = position_or_len (λ i. nat_eq i.id.0 q) level.items in
        let low : at < length level.items = within (λ i. nat_eq i.id.0 q) level.items (sym (ids_any q level.items) ∙ there) in
        let here : position_on q level ≡ Some at = cond-true (nat_lt at (length level.items)) (Some at) None (lt-ltb at (length level.items) low) in
        record {
          offset = 0;
          is = omega arith;
          level = level;
          there = refl;
          at = at;
          position_is = here;
          place_is = ap (λ o. option_or (option_map (λ (k : ℕ). (n, k)) o) (place_from (suc n) q levels)) here ∙ ap (λ (m : ℕ). Some (m, at)) same;
        }
    by false there more found =
        let rest : IsAt q (suc n) levels number = more found in
        let none : position_on q level ≡ None = position_none (λ i. nat_eq i.id.0 q) level.items (sym (ids_any q level.items) ∙ there) in
        record {
          offset = suc rest.offset;
          is = rest.is ∙ omega arith;
          level = rest.level;
          there = rest.there;
          at = rest.at;
          position_is = rest.position_is;
          place_is = ap (λ o. option_or (option_map (λ (k : ℕ). (n, k)) o) (place_from (suc n) q levels)) none ∙ rest.place_is;
        }

pub place_none : (q n : ℕ) (levels : List Level) → level_from n q levels ≡ None → place_from n q levels ≡ None
place_none q n [] none = refl
place_none q n (level ∷ levels) none = by (has_id q level) refl (λ h. place_none q (suc n) levels h) none
  where
    by : (b : Bool) → has_id q level ≡ b → (level_from (suc n) q levels ≡ None → place_from (suc n) q levels ≡ None) →
        cond b (Some n) (level_from (suc n) q levels) ≡ None → place_from n q (level ∷ levels) ≡ None
    by true there more none = cc
    by false there more none =
        let here : position_on q level ≡ None = position_none (λ i. nat_eq i.id.0 q) level.items (sym (ids_any q level.items) ∙ there) in
        ap (λ o. option_or (option_map (λ (k : ℕ). (n, k)) o) (place_from (suc n) q levels)) here ∙ more none

-- each level is asked in turn
pub asked : (id number : ℕ) (levels : List Level) (level : Level) (found : Option ℕ) → number < length levels → level ≡ get_or levels number level →
    found ≡ position_on id level →
    level_from number id (drop number levels) ≡ cond (is_some found) (Some number) (level_from (number + 1) id (drop (number + 1) levels))
asked id number levels level found low at is =
    let rest = drop (number + 1) levels in
    let there : is_some found ≡ has_id id level = ap is_some is ∙ is_found level.items id in
    ap (level_from number id) (drop_at levels number level low at)
    ∙ ap (λ b. cond b (Some number) (level_from (suc number) id rest)) (sym there)
    ∙ ap (λ n. cond (is_some found) (Some number) (level_from n id rest)) (sym (add-one number))

-- What the look-up of a level and then of a position in it answers.

level_same : (x y : Level) → Some x ≡ Some y → x ≡ y
level_same x y e = cc

pub number_within : (q : ℕ) (levels : List Level) (found : Option ℕ) → found ≡ level_of_id levels q → IfSome found (λ number. number < length levels)
number_within q levels None is = tt
number_within q levels (Some number) is =
    let at : IsAt q 0 levels number = place_found q 0 levels number (sym is) in
    let low : at.offset < length levels = slice_get_within levels at.offset at.level at.there in
    let same : number ≡ 0 + at.offset = at.is in
    omega arith

pub record IsPlaced (q : ℕ) (levels : List Level) (number : ℕ) (level : Level) : Type 0 where
  pub at : ℕ
  pub position_is : position_on q level ≡ Some at
  pub place_is : place_of levels q ≡ Some (number, at)

pub placed : (q : ℕ) (levels : List Level) (number : ℕ) (level : Level) → level_of_id levels q ≡ Some number → slice_get levels number ≡ Some level → IsPlaced q levels number level
placed q levels number level found there =
    let at : IsAt q 0 levels number = place_found q 0 levels number found in
    let same : at.offset ≡ number = at_start at.offset number at.is in
    let own : at.level ≡ level = level_same at.level level (sym at.there ∙ ap (λ k. slice_get levels k) same ∙ there) in
    record {
      at = at.at;
      position_is = ap (λ l. position_on q l) (sym own) ∙ at.position_is;
      place_is = at.place_is;
    }
  where
    at_start : (k n : ℕ) → n ≡ 0 + k → k ≡ n
    at_start k n e = omega arith
