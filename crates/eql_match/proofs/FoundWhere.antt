-- What a conjunction finds, by the places at which all of its conditions are met.
use Rattle.std.proofs.Common.{◌≡◌, ℕ, Bool, List, length, map, Result, Ok, Err, subst, zero, suc, ◌+◌, ◌<◌, ◌≤◌, cond, ◌∷◌, get_or, refl, ap, ◌∙◌, arith}
use Rattle.std.specs.Prelude.{IfOk}
use Rattle.std.specs.List.{filter, list_any, list_all, range_with_len}
use Rattle.emu_names.specs.declared.shortage.Memory.{Memory}
use Rattle.level_items.specs.declared.items.Item.{Item}
use Rattle.db_config.specs.declared.parts.ConfigParts.{ConfigParts}
use Rattle.bundle_state.specs.Bundle.{BundleParts}
use Rattle.eql_resolve.specs.Asked.{AskedTerm, is_marked_term}
use Rattle.eql_rows.specs.Inner.Flags.{flag_at}
use Rattle.eql_model.specs.Meaning.{single, singles}
use Rattle.level_items.specs.Levels.{items_at}
use Rattle.eql_model.specs.Inner.Meaning.{met_row}
use Rattle.eql_model.proofs.Conditions.{conjunction_exit}
use Rattle.eql_match.specs.Inner.Found.{tuples_in, IsRowOf}
use Rattle.eql_columns.specs.Inner.Rows.{all_bits}
use Rattle.eql_match.specs.declared.found.Found.{Found}
use Rattle.std.proofs.lemmas.List.FromFn.{get_or-range_with_len, length-range_with_len}
use Rattle.eql_tuples.specs.declared.tuple.Tuple.{Tuple}
use Rattle.eql_model.proofs.MadeRows.{flag_of_map}
use Rattle.eql_columns.proofs.Bits.{all_long}

kept_in : (a b : Bool) (k : ℕ) (ks ls : List ℕ) → a ≡ b → ks ≡ ls → cond a (k ∷ ks) ks ≡ cond b (k ∷ ls) ls
kept_in a b k ks ls e rest = λ i. cond (e i) (k ∷ rest i) (rest i)

filter_in : (p q : ℕ → Bool) (n k m : ℕ) → k + m ≤ n → ((i : ℕ) → i < n → p i ≡ q i) →
    filter p (range_with_len k m) ≡ filter q (range_with_len k m)
filter_in p q n k zero h same = refl
filter_in p q n k (suc m) h same =
    kept_in (p k) (q k) k (filter p (range_with_len (k + 1) m)) (filter q (range_with_len (k + 1) m)) (same k (omega arith))
    (filter_in p q n (k + 1) m (omega arith) same)

singles_exit : (marked : Bool) (rows : List (List Bool)) (met : List Bool) (n : ℕ) (items : List Item) (r : Result (List Tuple) Memory) →
    met ≡ all_bits n rows → n ≡ length items →
    IfOk r (λ made. made ≡ map (single marked) (filter (λ k. flag_at k met) (range_with_len 0 (length met)))) →
    IfOk r (λ made. made ≡ map (single marked) (filter (λ k. list_all (flag_at k) rows) (range_with_len 0 (length items))))
singles_exit marked rows met n items (Err e) is long told = tt
singles_exit marked rows met n items (Ok made) is long told =
    told
    ∙ ap (λ m. map (single marked) (filter (λ k. flag_at k met) (range_with_len 0 m))) count
    ∙ ap (map (single marked))
    (filter_in (λ k. flag_at k met) (λ k. list_all (flag_at k) rows) (length items) 0 (length items) (omega arith)
    (λ k h. ap (flag_at k) is ∙ flag_of_map (λ j. list_all (flag_at j) rows) (range_with_len 0 n) k 0 (omega (arith, length-range_with_len 0 n))
    ∙ ap (λ j. list_all (flag_at j) rows) (get_or-range_with_len 0 n k 0 (omega arith) ∙ zero_more k)))
  where
    count : length met ≡ length items
    count = ap length is ∙ all_long n rows ∙ long

    zero_more : (k : ℕ) → 0 + k ≡ k
    zero_more k = omega arith

-- the same by what was found
pub found_exit : (marked : Bool) (rows : List (List Bool)) (met : List Bool) (n : ℕ) (items : List Item) (r : Result Found Memory) →
    met ≡ all_bits n rows → n ≡ length items →
    IfOk r (λ made. tuples_in made ≡ map (single marked) (filter (λ k. flag_at k met) (range_with_len 0 (length met)))) →
    IfOk r (λ made. tuples_in made ≡ map (single marked) (filter (λ k. list_all (flag_at k) rows) (range_with_len 0 (length items))))
found_exit marked rows met n items (Err e) is long told = tt
found_exit marked rows met n items (Ok made) is long told = singles_exit marked rows met n items (Ok (tuples_in made)) is long told

pub found_row : (marked : Bool) (met : List Bool) (n : ℕ) (r : Result Found Memory) → length met ≡ n →
    IfOk r (λ made. IsRowOf (length met) marked made) → IfOk r (λ made. IsRowOf n marked made)
found_row marked met n r long told = subst (λ (m : ℕ). IfOk r (λ made. IsRowOf m marked made)) long told

pub conjunction_tuples : {A : Type 0} (c : ConfigParts) (b : BundleParts) (level : ℕ) (view : A → AskedTerm) (terms : List A)
    (rows : List (List Bool)) (items : List Item) (marked : Bool) (r : Result Found Memory) →
    rows ≡ map (λ t. met_row c b level (view t)) terms → items ≡ items_at b.levels level →
    marked ≡ list_any is_marked_term (map view terms) →
    IfOk r (λ made. tuples_in made ≡ map (single marked) (filter (λ k. list_all (flag_at k) rows) (range_with_len 0 (length items)))) →
    IfOk r (λ made. tuples_in made ≡ singles c b (map view terms) 0 (items_at b.levels level))
conjunction_tuples c b level view terms rows items marked (Err e) are same mark told = tt
conjunction_tuples c b level view terms rows items marked (Ok made) are same mark told =
    conjunction_exit c b level view terms rows items marked (Ok (tuples_in made)) are same mark told
