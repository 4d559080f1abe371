-- The tuples of a conjunction, by positions and by items.
use Rattle.std.proofs.Common.{◌≡◌, ℕ, zero, suc, ◌+◌, ◌<◌, ◌≤◌, Bool, true, false, cond, List, [], ◌∷◌, ◌++◌, length, map, get_or, Result, Ok, Err, refl, sym, ap, ◌∙◌, arith}
use Rattle.std.specs.Prelude.{IfOk}
use Rattle.std.specs.List.{filter, list_all, list_any, enumerate_from, range_with_len}
use Rattle.std.proofs.lemmas.List.{length-map, map-append, map-id}
use Rattle.std.proofs.lemmas.List.Elements.{filter-append}
use Rattle.std.proofs.lemmas.List.FromFn.{map-range_with_len_more}
use Rattle.std.proofs.lemmas.List.Sums.{sum_by-cons, length-filter, count_by-le-length}
use Rattle.emu_names.specs.declared.shortage.Memory.{Memory}
use Rattle.level_items.specs.declared.items.Item.{Item}
use Rattle.level_items.specs.Levels.{Level, items_at}
use Rattle.db_config.specs.declared.parts.ConfigParts.{ConfigParts}
use Rattle.bundle_state.specs.Bundle.{BundleParts, item_count}
use Rattle.eql_resolve.specs.Asked.{AskedTerm, is_marked_term}
use Rattle.eql_tuples.specs.declared.tuple.Tuple.{Tuple}
use Rattle.eql_rows.specs.Inner.Flags.{flag_at}
use Rattle.eql_model.specs.Meaning.{meets, meets_all, single, singles}
use Rattle.eql_model.specs.Inner.Meaning.{met_row}
use Rattle.eql_model.proofs.MadeRows.{all_of_maps, no_item}

-- ---- one position more

range_push : (n : ℕ) → range_with_len 0 (n + 1) ≡ range_with_len 0 n ++ n ∷ []
range_push n =
    sym (map-id (range_with_len 0 (n + 1))) ∙ map-range_with_len_more (λ (k : ℕ). k) 0 n n (omega arith)
    ∙ ap (λ ks. ks ++ n ∷ []) (map-id (range_with_len 0 n))

pub singles_step : (f : ℕ → Tuple) (q : ℕ → Bool) (n : ℕ) (made more : List Tuple) → made ≡ map f (filter q (range_with_len 0 n)) →
    more ≡ made ++ map f (filter q (n ∷ [])) → more ≡ map f (filter q (range_with_len 0 (n + 1)))
singles_step f q n made more so_far put =
    put ∙ ap (λ ts. ts ++ map f (filter q (n ∷ []))) so_far
    ∙ sym (ap (λ ks. map f (filter q ks)) (range_push n) ∙ ap (map f) (filter-append q (range_with_len 0 n) (n ∷ []))
    ∙ map-append f (filter q (range_with_len 0 n)) (filter q (n ∷ [])))

-- ---- positions and items

same_choice : (a b : Bool) (k : ℕ) (x : Item) (f : ℕ → Tuple) (ks : List ℕ) (es : List (ℕ × Item)) → a ≡ b →
    map f ks ≡ map (λ (at : ℕ × Item). f at.0) es →
    map f (cond a (k ∷ ks) ks) ≡ map (λ (at : ℕ × Item). f at.0) (cond b ((k, x) ∷ es) es)
same_choice a true k x f ks es e rest = ap (λ c. map f (cond c (k ∷ ks) ks)) e ∙ ap (λ ts. f k ∷ ts) rest
same_choice a false k x f ks es e rest = ap (λ c. map f (cond c (k ∷ ks) ks)) e ∙ rest

by_positions : (q : ℕ → Bool) (p : Item → Bool) (f : ℕ → Tuple) (k : ℕ) (xs : List Item) →
    ((i : ℕ) → i < length xs → q (k + i) ≡ p (get_or xs i no_item)) →
    map f (filter q (range_with_len k (length xs)))
    ≡ map (λ (at : ℕ × Item). f at.0) (filter (λ (at : ℕ × Item). p at.1) (enumerate_from k xs))
by_positions q p f k [] same = refl
by_positions q p f k (x ∷ xs) same =
    same_choice (q k) (p x) k x f (filter q (range_with_len (k + 1) (length xs)))
    (filter (λ (at : ℕ × Item). p at.1) (enumerate_from (k + 1) xs)) here
    (by_positions q p f (k + 1) xs (λ i h. let e : k + 1 + i ≡ k + suc i = omega arith in ap q e ∙ same (suc i) (omega arith)))
  where
    here : q k ≡ p x
    here = let e : k ≡ k + 0 = omega arith in ap q e ∙ same 0 (omega arith)

pub singles_are : (c : ConfigParts) (b : BundleParts) (ts : List AskedTerm) (items : List Item) →
    map (single (list_any is_marked_term ts))
    (filter (λ k. list_all (flag_at k) (map (λ t. map (meets c b t) items) ts)) (range_with_len 0 (length items)))
    ≡ singles c b ts 0 items
singles_are c b ts items =
    by_positions (λ k. list_all (flag_at k) (map (λ t. map (meets c b t) items) ts)) (meets_all c b ts)
    (single (list_any is_marked_term ts)) 0 items at_place
  where
    at_place : (i : ℕ) → i < length items →
        list_all (flag_at (0 + i)) (map (λ t. map (meets c b t) items) ts) ≡ meets_all c b ts (get_or items i no_item)
    at_place i h =
        let e : 0 + i ≡ i = omega arith in
        ap (λ k. list_all (flag_at k) (map (λ t. map (meets c b t) items) ts)) e
        ∙ all_of_maps (meets c b) items i no_item ts h

map_twice : {A B C : Type 0} (f : B → C) (g : A → B) (xs : List A) → map (λ x. f (g x)) xs ≡ map f (map g xs)
map_twice f g [] = refl
map_twice f g (x ∷ xs) = ap (λ ys. f (g x) ∷ ys) (map_twice f g xs)

pub conjunction_exit : {A : Type 0} (c : ConfigParts) (b : BundleParts) (level : ℕ) (view : A → AskedTerm) (terms : List A)
    (rows : List (List Bool)) (items : List Item) (marked : Bool) (r : Result (List Tuple) Memory) →
    rows ≡ map (λ t. met_row c b level (view t)) terms → items ≡ items_at b.levels level →
    marked ≡ list_any is_marked_term (map view terms) →
    IfOk r (λ made. made ≡ map (single marked) (filter (λ k. list_all (flag_at k) rows) (range_with_len 0 (length items)))) →
    IfOk r (λ made. made ≡ singles c b (map view terms) 0 (items_at b.levels level))
conjunction_exit c b level view terms rows items marked (Err e) are at mark told = tt
conjunction_exit c b level view terms rows items marked (Ok made) are at mark told =
    told
    ∙ (λ i. map (single (mark i))
    (filter (λ k. list_all (flag_at k) ((are ∙ map_twice (met_row c b level) view terms) i)) (range_with_len 0 (length (at i)))))
    ∙ singles_are c b (map view terms) (items_at b.levels level)

-- ---- how many there are

pub level_few : (levels : List Level) (n : ℕ) → length (items_at levels n) ≤ item_count levels
level_few [] n = omega arith
level_few (l ∷ ls) zero =
    let sum = sum_by-cons (λ (k : Level). length k.items) l ls in omega arith
level_few (l ∷ ls) (suc n) =
    let sum = sum_by-cons (λ (k : Level). length k.items) l ls in let rest = level_few ls n in omega arith

enumerated : (k : ℕ) (items : List Item) → length (enumerate_from k items) ≡ length items
enumerated k [] = refl
enumerated k (x ∷ items) = let rest = enumerated (k + 1) items in omega arith

pub singles_few : (c : ConfigParts) (b : BundleParts) (ts : List AskedTerm) (k : ℕ) (items : List Item) →
    length (singles c b ts k items) ≤ length items
singles_few c b ts k items =
    let P : ℕ × Item → Bool = λ at. meets_all c b ts at.1 in
    let made : length (singles c b ts k items) ≡ length (filter P (enumerate_from k items)) =
    length-map (filter P (enumerate_from k items)) (λ (at : ℕ × Item). single (list_any is_marked_term ts) at.0) in
    let kept = length-filter P (enumerate_from k items) in
    let fewer = count_by-le-length P (enumerate_from k items) in
    let all = enumerated k items in
    omega arith
