-- The first positions of the tuples of a query never fall.
use Rattle.std.proofs.Common.{◌≡◌, ◌⊎◌, inl, inr, ℕ, zero, suc, ◌+◌, ◌<◌, ◌≤◌, Bool, true, false, cond, List, [], ◌∷◌, map, get_or, sym, ap, subst, ◌∙◌, arith}
use Rattle.std.specs.Prelude.{All}
use Rattle.std.specs.List.{filter, flat_map, enumerate_from, list_any}
use Rattle.std.specs.List.Sorted.{IsStrictlySortedBy}
use Rattle.std.specs.Option.{option_cmp}
use Rattle.std.specs.declared.cmp.Ordering.TheVariants.{Less, Greater}
use Rattle.std.specs.Ordering.{nat_cmp, ordering_then}
use Rattle.std.proofs.lemmas.Bool.{cases_lt}
use Rattle.std.specs.Cmp.{nat_cmp_is}
use Rattle.std.proofs.lemmas.List.Elements.{All-nil, All-cons, All-get_or}
use Rattle.std.proofs.lemmas.Map.Keys.{Less-from_sorted}
use Rattle.level_items.specs.declared.items.Item.{Item}
use Rattle.db_config.specs.declared.parts.ConfigParts.{ConfigParts}
use Rattle.bundle_state.specs.Bundle.{BundleParts}
use Rattle.hier_closure.specs.Dominance.{ids_at}
use Rattle.eql_resolve.specs.Asked.{AskedQuery, terms, sequence, dominance, is_marked_term, level_of}
use Rattle.eql_tuples.specs.declared.tuple.Tuple.{Tuple}
use Rattle.eql_tuples.specs.Sets.{tuple_cmp}
use Rattle.eql_tuples.specs.Tuples.{follows, both, left_with, pairs_with}
use Rattle.eql_model.specs.Covers.{one_covers}
use Rattle.eql_model.specs.Meaning.{meets_all, single, tuples}
use Rattle.level_items.specs.Levels.{items_at}
use Rattle.eql_tuples.proofs.Members.{once_sorted}
use Rattle.eql_match.specs.Inner.Ways.{Rise}

-- ---- sets

first_le : (a b : Tuple) → tuple_cmp a b ≡ Less → a.first ≤ b.first
first_le a b less = by (cases_lt b.first a.first)
  where
    by : (b.first < a.first) ⊎ (a.first ≤ b.first) → a.first ≤ b.first
    by (inl falls) =
        let greater : Greater ≡ nat_cmp a.first b.first = nat_cmp_is a.first b.first Greater falls in
        let other : Greater ≡ Less =
        ap (λ o. ordering_then o (ordering_then (nat_cmp a.last b.last) (option_cmp nat_cmp a.mark b.mark))) greater ∙ less in
        absurd cc
    by (inr rises) = rises

rise_sorted : (ts : List Tuple) → IsStrictlySortedBy tuple_cmp ts → Rise ts
rise_sorted ts sorted i j d le within = by (cases_lt i j)
  where
    by : (i < j) ⊎ (j ≤ i) → (get_or ts i d).first ≤ (get_or ts j d).first
    by (inl less) = first_le (get_or ts i d) (get_or ts j d) (Less-from_sorted tuple_cmp ts i j d sorted less within)
    by (inr same) =
        let here : i ≡ j = omega arith in
        subst (λ (k : ℕ). (get_or ts i d).first ≤ (get_or ts k d).first) here (omega arith)

-- ---- tuples of single items

abbrev pub From : ℕ → Tuple → Type 0
From n t = n ≤ t.first

rise_cons : (x : Tuple) (xs : List Tuple) → All (From x.first) xs → Rise xs → Rise (x ∷ xs)
rise_cons x xs all rest zero zero d le within = omega arith
rise_cons x xs all rest zero (suc j) d le within = All-get_or (From x.first) xs j d (omega arith) all
rise_cons x xs all rest (suc i) zero d le within = absurd (omega arith)
rise_cons x xs all rest (suc i) (suc j) d le within = rest i j d (omega arith) (omega arith)

rise_nil : Rise []
rise_nil i j d le within = absurd (omega arith)

abbrev pub single_at : Bool → ℕ × Item → Tuple
single_at marked at = single marked at.0

kept_from : (b : Bool) (n : ℕ) (marked : Bool) (at : ℕ × Item) (kept : List (ℕ × Item)) → n ≤ at.0 →
    All (From n) (map (single_at marked) kept) → All (From n) (map (single_at marked) (cond b (at ∷ kept) kept))
kept_from true n marked at kept h rest = All-cons (From n) (single_at marked at) (map (single_at marked) kept) h rest
kept_from false n marked at kept h rest = rest

pub singles_from : (n : ℕ) (marked : Bool) (p : ℕ × Item → Bool) (k : ℕ) (items : List Item) → n ≤ k →
    All (From n) (map (single_at marked) (filter p (enumerate_from k items)))
singles_from n marked p k [] h = All-nil (From n)
singles_from n marked p k (x ∷ items) h =
    kept_from (p (k, x)) n marked (k, x) (filter p (enumerate_from (k + 1) items)) h
    (singles_from n marked p (k + 1) items (omega arith))

kept_rise : (b : Bool) (marked : Bool) (at : ℕ × Item) (kept : List (ℕ × Item)) → All (From at.0) (map (single_at marked) kept) →
    Rise (map (single_at marked) kept) → Rise (map (single_at marked) (cond b (at ∷ kept) kept))
kept_rise true marked at kept all rest = rise_cons (single_at marked at) (map (single_at marked) kept) all rest
kept_rise false marked at kept all rest = rest

singles_rise : (marked : Bool) (p : ℕ × Item → Bool) (k : ℕ) (items : List Item) →
    Rise (map (single_at marked) (filter p (enumerate_from k items)))
singles_rise marked p k [] = rise_nil
singles_rise marked p k (x ∷ items) =
    kept_rise (p (k, x)) marked (k, x) (filter p (enumerate_from (k + 1) items))
    (singles_from k marked p (k + 1) items (omega arith)) (singles_rise marked p (k + 1) items)

-- ---- the tuples of a query

tuples_rise : (c : ConfigParts) (b : BundleParts) (q : AskedQuery) → Rise (tuples c b q)
tuples_rise c b (terms ts) =
    singles_rise (list_any is_marked_term ts) (λ at. meets_all c b ts at.1) 0 (items_at b.levels (level_of (terms ts)))
tuples_rise c b (sequence p q) =
    rise_sorted (tuples c b (sequence p q)) (once_sorted (flat_map (pairs_with follows both (tuples c b q)) (tuples c b p)))
tuples_rise c b (dominance p q) =
    rise_sorted (tuples c b (dominance p q))
    (once_sorted (flat_map (pairs_with (one_covers b.links (ids_at b.levels (level_of p)) (ids_at b.levels (level_of q))) left_with
    (tuples c b q)) (tuples c b p)))

pub found_rise : (c : ConfigParts) (b : BundleParts) (q : AskedQuery) (found : List Tuple) → found ≡ tuples c b q → Rise found
found_rise c b q found is = subst Rise (sym is) (tuples_rise c b q)
