-- Tuples without marks, in order, show themselves.
use Rattle.std.proofs.Common.{◌≡◌, ℕ, ◌+◌, ◌<◌, ◌≤◌, Bool, true, false, cond, ◌||◌, ◌&&◌, List, [], ◌∷◌, length, map, take, drop, get_or, Option, None, Some, Ok, refl, sym, ap, subst, ◌∙◌, arith}
use Rattle.std.specs.Prelude.{All, is_some, not}
use Rattle.std.specs.List.{filter, flat_map, enumerate_from, list_all, list_any}
use Rattle.std.specs.List.Sorted.{IsStrictlySortedBy}
use Rattle.std.specs.Option.{option_cmp}
use Rattle.std.specs.declared.cmp.Ordering.TheVariants.{Less}
use Rattle.std.specs.Ordering.{nat_cmp, ordering_then}
use Rattle.std.specs.Cmp.{nat_cmp_is}
use Rattle.std.proofs.lemmas.Bool.{and_parts, or_parts}
use Rattle.std.proofs.lemmas.List.{take-append-drop, take_all}
use Rattle.std.proofs.lemmas.List.Concat.{flat_map-cons}
use Rattle.std.proofs.lemmas.List.Folds.{list_all-append, list_all_more}
use Rattle.std.proofs.lemmas.List.Elements.{All-weaker, recursion_from_All}
use Rattle.level_items.specs.declared.items.Item.{Item}
use Rattle.db_config.specs.declared.parts.ConfigParts.{ConfigParts}
use Rattle.bundle_state.specs.Bundle.{BundleParts}
use Rattle.hier_closure.specs.Dominance.{ids_at}
use Rattle.eql_resolve.specs.Asked.{AskedQuery, terms, sequence, dominance, is_marked_term, level_of}
use Rattle.eql_tuples.specs.declared.tuple.Tuple.{Tuple}
use Rattle.eql_tuples.specs.Shown.{bare, shown}
use Rattle.eql_tuples.specs.Sets.{each_once, is_over, tuple_cmp}
use Rattle.eql_tuples.specs.Inner.Sets.{GivesSet}
use Rattle.eql_tuples.specs.Tuples.{follows, both, left_with, pairs_with}
use Rattle.eql_model.specs.Covers.{one_covers}
use Rattle.eql_model.specs.Meaning.{has_too_many, meets_all, tuples}
use Rattle.level_items.specs.Levels.{items_at}
use Rattle.eql_tuples.proofs.Members.{once_is, once_sorted}
use Rattle.eql_match.specs.Inner.Shown.{is_bare}
use Rattle.eql_match.proofs.Order.{single_at, singles_from, From}

-- ---- the tuples of a query are in order

pub less_by_first : (a b : Tuple) → a.first < b.first → tuple_cmp a b ≡ Less
less_by_first a b before =
    sym (ap (λ o. ordering_then o (ordering_then (nat_cmp a.last b.last) (option_cmp nat_cmp a.mark b.mark))) (nat_cmp_is a.first b.first Less before))

-- a tuple comes before another
abbrev Before : Tuple → Tuple → Type 0
Before a b = tuple_cmp a b ≡ Less

kept_sorted : (keep : Bool) (marked : Bool) (at : ℕ × Item) (kept : List (ℕ × Item)) → All (From (at.0 + 1)) (map (single_at marked) kept) →
    IsStrictlySortedBy tuple_cmp (map (single_at marked) kept) →
    IsStrictlySortedBy tuple_cmp (map (single_at marked) (cond keep (at ∷ kept) kept))
unfolding IsStrictlySortedBy
kept_sorted true marked at kept all rest = (
  recursion_from_All (Before (single_at marked at)) (map (single_at marked) kept)
      (All-weaker (From (at.0 + 1)) (Before (single_at marked at))
      (λ t from. less_by_first (single_at marked at) t (omega (arith, from))) (map (single_at marked) kept) all),
  rest,
)
kept_sorted false marked at kept all rest = rest

singles_sorted : (marked : Bool) (p : ℕ × Item → Bool) (k : ℕ) (items : List Item) →
    IsStrictlySortedBy tuple_cmp (map (single_at marked) (filter p (enumerate_from k items)))
unfolding IsStrictlySortedBy
singles_sorted marked p k [] = tt
singles_sorted marked p k (x ∷ items) =
    kept_sorted (p (k, x)) marked (k, x) (filter p (enumerate_from (k + 1) items))
    (singles_from (k + 1) marked p (k + 1) items (omega arith)) (singles_sorted marked p (k + 1) items)

tuples_sorted : (c : ConfigParts) (b : BundleParts) (q : AskedQuery) → IsStrictlySortedBy tuple_cmp (tuples c b q)
tuples_sorted c b (terms ts) =
    singles_sorted (list_any is_marked_term ts) (λ at. meets_all c b ts at.1) 0 (items_at b.levels (level_of (terms ts)))
tuples_sorted c b (sequence p q) = once_sorted (flat_map (pairs_with follows both (tuples c b q)) (tuples c b p))
tuples_sorted c b (dominance p q) =
    once_sorted (flat_map (pairs_with (one_covers b.links (ids_at b.levels (level_of p)) (ids_at b.levels (level_of q))) left_with
    (tuples c b q)) (tuples c b p))

pub found_sorted : (c : ConfigParts) (b : BundleParts) (q : AskedQuery) (found : List Tuple) → found ≡ tuples c b q →
    IsStrictlySortedBy tuple_cmp found
found_sorted c b q found is = subst (IsStrictlySortedBy tuple_cmp) (sym is) (tuples_sorted c b q)

whole_few : (c : ConfigParts) (b : BundleParts) (q : AskedQuery) → has_too_many c b q ≡ false → is_over (tuples c b q) ≡ false
whole_few c b (terms ts) few = few
whole_few c b (sequence p q) few = (or_parts (has_too_many c b p || has_too_many c b q) (is_over (tuples c b (sequence p q))) few).1
whole_few c b (dominance p q) few = (or_parts (has_too_many c b p || has_too_many c b q) (is_over (tuples c b (dominance p q))) few).1

pub found_few : (c : ConfigParts) (b : BundleParts) (q : AskedQuery) (found : List Tuple) → found ≡ tuples c b q → has_too_many c b q ≡ false →
    is_over found ≡ false
found_few c b q found is few = ap is_over is ∙ whole_few c b q few

-- ---- tuples without marks

pub bare_more : (ts : List Tuple) (i : ℕ) (d : Tuple) → list_all is_bare (take i ts) ≡ true → i < length ts →
    is_some (get_or ts i d).mark ≡ false → list_all is_bare (take (i + 1) ts) ≡ true
bare_more ts i d so_far h none = list_all_more is_bare ts i d h ∙ (λ j. so_far j && not (none j))

pub all_bare : (ts : List Tuple) (i : ℕ) → list_all is_bare (take i ts) ≡ true → length ts ≤ i → true ≡ list_all is_bare ts
all_bare ts i so_far past = sym (ap (list_all is_bare) (sym (take_all i ts past)) ∙ so_far)

pub one_marked : (ts : List Tuple) (i : ℕ) (d : Tuple) → list_all is_bare (take i ts) ≡ true → i < length ts →
    is_some (get_or ts i d).mark ≡ true → false ≡ list_all is_bare ts
one_marked ts i d so_far h some =
    sym (ap (list_all is_bare) (sym (take-append-drop (i + 1) ts))
    ∙ list_all-append is_bare (take (i + 1) ts) (drop (i + 1) ts)
    ∙ ap (λ b. b && list_all is_bare (drop (i + 1) ts)) (list_all_more is_bare ts i d h ∙ (λ j. so_far j && not (some j))))

bare_is : (t : Tuple) → is_bare t ≡ true → bare t.first t.last ≡ t
bare_is t none = by t.mark refl none
  where
    by : (o : Option ℕ) → t.mark ≡ o → not (is_some o) ≡ true → bare t.first t.last ≡ t
    by None is h = λ i. record { first = t.first; last = t.last; mark = sym is i }
    by (Some at) is h = absurd cc

shown_bare : (ts : List Tuple) → list_all is_bare ts ≡ true → flat_map (shown false) ts ≡ ts
shown_bare [] all = refl
shown_bare (t ∷ ts) all =
    let parts = and_parts (is_bare t) (list_all is_bare ts) all in
    flat_map-cons (shown false) t ts ∙ (λ i. bare_is t parts.0 i ∷ shown_bare ts parts.1 i)

pub show_themselves : (marked : Bool) (ts : List Tuple) → IsStrictlySortedBy tuple_cmp ts → marked ≡ false → list_all is_bare ts ≡ true →
    ts ≡ each_once (flat_map (shown marked) ts)
show_themselves marked ts sorted unmarked all =
    sym (ap (λ m. each_once (flat_map (shown m) ts)) unmarked ∙ ap each_once (shown_bare ts all) ∙ once_is ts sorted)

pub shown_set : (marked : Bool) (ts : List Tuple) → IsStrictlySortedBy tuple_cmp ts → is_over ts ≡ false → marked ≡ false →
    list_all is_bare ts ≡ true → GivesSet (Ok ts) (each_once (flat_map (shown marked) ts))
shown_set marked ts sorted few unmarked all =
    let own = show_themselves marked ts sorted unmarked all in
    (own, ap is_over (sym own) ∙ few)
