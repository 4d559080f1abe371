-- The first and the last of the items with a bit, and how many there are.
use Rattle.std.proofs.Common.{◌≡◌, ℕ, zero, suc, ◌+◌, ◌<◌, Bool, true, false, ◌||◌, List, [], ◌∷◌, ◌++◌, length, take, drop, map, get_or, Option, None, Some, refl, sym, ap, ◌∙◌, arith}
use Rattle.std.specs.Prelude.{◌==◌, nat_eq}
use Rattle.std.specs.List.{slice_get, items_where_true, list_any}
use Rattle.std.proofs.lemmas.List.{drop_more, map_more, get_or-map, length-map}
use Rattle.std.proofs.lemmas.Option.{slice_get_within, get_or_from_slice_get}
use Rattle.lane_bits.specs.Inner.Row.{NoneWhere, IsFirst, IsLast}
use Rattle.level_items.specs.declared.items.Item.{Item}
use Rattle.level_items.specs.Levels.{ids_of}
use Rattle.eql_model.specs.Positions.{is_first, is_last}

true_false : {A : Type 0} (o : Option Bool) → o ≡ Some true → o ≡ Some false → A
true_false o yes_it_is no_it_is = absurd cc

pub none_true : (row : List Bool) (ids : List ℕ) → NoneWhere row (λ i. Unit {0}) → items_where_true row ids ≡ []
none_true [] ids none = refl
none_true (true ∷ row) [] none = refl
none_true (false ∷ row) [] none = refl
none_true (true ∷ row) (x ∷ ids) none = true_false (Some true) refl (none 0 (omega arith) tt)
none_true (false ∷ row) (x ∷ ids) none = none_true row ids (λ i h u. none (suc i) (omega arith) tt)

pub first_where : (row : List Bool) (ids : List ℕ) (p x : ℕ) → length row ≡ length ids → slice_get row p ≡ Some true →
    NoneWhere row (λ i. i < p) → is_first (items_where_true row ids) x ≡ (get_or ids p 0 == x)
first_where [] ids p x same here none = absurd cc
first_where (true ∷ row) [] p x same here none = absurd cc
first_where (false ∷ row) [] p x same here none = absurd cc
first_where (true ∷ row) (y ∷ ids) zero x same here none = refl
first_where (true ∷ row) (y ∷ ids) (suc p) x same here none = true_false (Some true) refl (none 0 (omega arith) (omega arith))
first_where (false ∷ row) (y ∷ ids) zero x same here none = true_false (Some false) here refl
first_where (false ∷ row) (y ∷ ids) (suc p) x same here none =
    first_where row ids p x (omega arith) here (λ i h less. none (suc i) (omega arith) (omega arith))

some_where : (row : List Bool) (ids : List ℕ) (p : ℕ) → length row ≡ length ids → slice_get row p ≡ Some true →
    0 < length (items_where_true row ids)
some_where [] ids p same here = absurd cc
some_where (true ∷ row) [] p same here = absurd cc
some_where (false ∷ row) [] p same here = absurd cc
some_where (true ∷ row) (y ∷ ids) p same here = omega arith
some_where (false ∷ row) (y ∷ ids) zero same here = true_false (Some false) here refl
some_where (false ∷ row) (y ∷ ids) (suc p) same here = some_where row ids p (omega arith) here

behind_front : (y x : ℕ) (rest : List ℕ) → 0 < length rest → is_last (y ∷ rest) x ≡ is_last rest x
behind_front y x [] h = absurd (omega arith)
behind_front y x (z ∷ zs) h = refl

pub last_where : (row : List Bool) (ids : List ℕ) (p x : ℕ) → length row ≡ length ids → slice_get row p ≡ Some true →
    NoneWhere row (λ i. p < i) → is_last (items_where_true row ids) x ≡ (get_or ids p 0 == x)
last_where [] ids p x same here none = absurd cc
last_where (true ∷ row) [] p x same here none = absurd cc
last_where (false ∷ row) [] p x same here none = absurd cc
last_where (true ∷ row) (y ∷ ids) zero x same here none =
    ap (λ rest. is_last (y ∷ rest) x) (none_true row ids (λ i h u. none (suc i) (omega arith) (omega arith)))
last_where (true ∷ row) (y ∷ ids) (suc p) x same here none =
    behind_front y x (items_where_true row ids) (some_where row ids p (omega arith) here)
    ∙ last_where row ids p x (omega arith) here (λ i h less. none (suc i) (omega arith) (omega arith))
last_where (false ∷ row) (y ∷ ids) zero x same here none = true_false (Some false) here refl
last_where (false ∷ row) (y ∷ ids) (suc p) x same here none =
    last_where row ids p x (omega arith) here (λ i h less. none (suc i) (omega arith) (omega arith))

-- in terms of what a row answers
pub first_is : (row : List Bool) (ids : List ℕ) (x : ℕ) (p : ℕ) → length row ≡ length ids → IsFirst row (Some p) →
    is_first (items_where_true row ids) x ≡ (get_or ids p 0 == x)
first_is row ids x p same first = first_where row ids p x same first.0 first.1

pub first_none : (row : List Bool) (ids : List ℕ) (x : ℕ) → IsFirst row None → false ≡ is_first (items_where_true row ids) x
first_none row ids x none = sym (ap (λ rest. is_first rest x) (none_true row ids none))

pub last_is : (row : List Bool) (ids : List ℕ) (x : ℕ) (p : ℕ) → length row ≡ length ids → IsLast row (Some p) →
    is_last (items_where_true row ids) x ≡ (get_or ids p 0 == x)
last_is row ids x p same last = last_where row ids p x same last.0 last.1

pub last_none : (row : List Bool) (ids : List ℕ) (x : ℕ) → IsLast row None → false ≡ is_last (items_where_true row ids) x
last_none row ids x none = sym (ap (λ rest. is_last rest x) (none_true row ids none))

-- ---- a loop over rows

drop_get : {X : Type 0} (xs : List X) (i : ℕ) (x : X) → slice_get xs i ≡ Some x → drop i xs ≡ x ∷ drop (i + 1) xs
drop_get xs i x here =
    drop_more xs i x (slice_get_within xs i x here) ∙ ap (λ y. y ∷ drop (i + 1) xs) (get_or_from_slice_get xs i x x here)

pub rest_passes : {X : Type 0} (p : X → Bool) (xs : List X) (i : ℕ) (x : X) (whole : Bool) → list_any p (drop i xs) ≡ whole →
    slice_get xs i ≡ Some x → p x ≡ false → list_any p (drop (i + 1) xs) ≡ whole
rest_passes p xs i x whole so_far here e =
    sym (ap (λ b. b || list_any p (drop (i + 1) xs)) e) ∙ sym (ap (list_any p) (drop_get xs i x here)) ∙ so_far

pub rest_found : {X : Type 0} (p : X → Bool) (xs : List X) (i : ℕ) (x : X) (whole : Bool) → list_any p (drop i xs) ≡ whole →
    slice_get xs i ≡ Some x → p x ≡ true → true ≡ whole
rest_found p xs i x whole so_far here e =
    sym (ap (λ b. b || list_any p (drop (i + 1) xs)) e) ∙ sym (ap (list_any p) (drop_get xs i x here)) ∙ so_far

-- ---- answers by the items themselves

id_is : (items : List Item) (i : ℕ) (d : Item) → i < length items → (get_or items i d).id.0 ≡ get_or (ids_of items) i 0
id_is items i d h = sym (get_or-map (λ (item : Item). item.id.0) items i d 0 h)

same_ids : (items : List Item) (p at : ℕ) (d e : Item) → p < length items → at < length items →
    nat_eq (get_or items p d).id.0 (get_or items at e).id.0 ≡ nat_eq (get_or (ids_of items) p 0) (get_or (ids_of items) at 0)
same_ids items p at d e there here = λ i. nat_eq (id_is items p d there i) (id_is items at e here i)

as_wide : (row : List Bool) (items : List Item) → length row ≡ length items → length row ≡ length (ids_of items)
as_wide row items same = same ∙ sym (length-map items (λ (item : Item). item.id.0))

within_row : (row : List Bool) (items : List Item) (p : ℕ) → length row ≡ length items → slice_get row p ≡ Some true → p < length items
within_row row items p same here = let h : p < length row = slice_get_within row p true here in omega arith

pub first_answer : (row : List Bool) (items : List Item) (p at : ℕ) (d e : Item) → length row ≡ length items → at < length items →
    IsFirst row (Some p) →
    nat_eq (get_or items p d).id.0 (get_or items at e).id.0 ≡ is_first (items_where_true row (ids_of items)) (get_or (ids_of items) at 0)
first_answer row items p at d e same here first =
    same_ids items p at d e (within_row row items p same first.0) here
    ∙ sym (first_is row (ids_of items) (get_or (ids_of items) at 0) p (as_wide row items same) first)

pub last_answer : (row : List Bool) (items : List Item) (p at : ℕ) (d e : Item) → length row ≡ length items → at < length items →
    IsLast row (Some p) →
    nat_eq (get_or items p d).id.0 (get_or items at e).id.0 ≡ is_last (items_where_true row (ids_of items)) (get_or (ids_of items) at 0)
last_answer row items p at d e same here last =
    same_ids items p at d e (within_row row items p same last.0) here
    ∙ sym (last_is row (ids_of items) (get_or (ids_of items) at 0) p (as_wide row items same) last)

-- one flag more
pub flags_step : {X : Type 0} (f : X → Bool) (xs : List X) (i : ℕ) (x : X) (flags more : List Bool) (flag : Bool) →
    slice_get xs i ≡ Some x → flags ≡ map f (take i xs) → flag ≡ f x → more ≡ flags ++ flag ∷ [] → more ≡ map f (take (i + 1) xs)
flags_step f xs i x flags more flag here so_far is put =
    put ∙ (λ k. so_far k ++ (is ∙ ap f (sym (get_or_from_slice_get xs i x x here))) k ∷ [])
    ∙ sym (map_more f xs i x (slice_get_within xs i x here))
