-- A sequence of three parts, whose inner brackets may stand around the first two or the last two.
use Rattle.std.proofs.Common.{◌≡◌, ℕ, Bool, true, false, ◌||◌, ◌&&◌, List, [], ◌∷◌, map, Option, None, Some, refl, sym, ap, ◌∙◌}
use Rattle.std.specs.Prelude.{unwrap_or}
use Rattle.std.specs.List.{flat_map, list_any}
use Rattle.std.specs.Option.{option_or}
use Rattle.std.specs.BTreeMap.{is_at}
use Rattle.db_config.specs.declared.parts.ConfigParts.{ConfigParts}
use Rattle.bundle_state.specs.Bundle.{BundleParts}
use Rattle.eql_resolve.specs.Asked.{AskedQuery, sequence, is_marked, mark_place, first_place, shown_place}
use Rattle.eql_tuples.specs.declared.tuple.Tuple.{Tuple}
use Rattle.eql_tuples.specs.Sets.{tuple_cmp, each_once}
use Rattle.eql_tuples.specs.Tuples.{follows, both, pairs_with, joined}
use Rattle.eql_model.specs.Meaning.{tuples}
use Rattle.eql_tuples.specs.Shown.{shown}
use Rattle.eql_rows.specs.Spans.{span_at}
use Rattle.eql_tuples.proofs.Members.{joined_any, has_once, same_once}
use Rattle.eql_laws.specs.Laws.{BracketsAreFree}

-- ---- of three, the first that is there

or_turned : {A : Type 0} (l m r : Option A) → option_or (option_or l m) r ≡ option_or l (option_or m r)
or_turned None m r = refl
or_turned (Some x) m r = refl

any_of_three : (l m r : Bool) → ((l || m) || r) ≡ (l || (m || r))
any_of_three true m r = refl
any_of_three false m r = refl

both_turned : (l m r : Tuple) → both (both l m) r ≡ both l (both m r)
both_turned l m r = λ i. record { first = l.first; last = r.last; mark = or_turned l.mark m.mark r.mark i }

-- ---- tests of three tuples

never : (rs : List Tuple) → false ≡ list_any (λ (r : Tuple). false) rs
never [] = refl
never (r ∷ rs) = never rs

pulled : (b : Bool) (g : Tuple → Bool) (rs : List Tuple) → (b && list_any g rs) ≡ list_any (λ r. b && g r) rs
pulled true g rs = refl
pulled false g rs = never rs

and_turned : (x y z : Bool) → (x && (y && z)) ≡ (y && (x && z))
and_turned true y z = refl
and_turned false true z = refl
and_turned false false z = refl

-- some three tuples that follow one another make one that passes, with the first two in brackets or the last two
abbrev by_left : (Tuple → Bool) → List Tuple → List Tuple → List Tuple → Bool
by_left f ls ms rs =
    list_any (λ l. list_any (λ m. follows l m && list_any (λ r. follows m r && f (both (both l m) r)) rs) ms) ls

abbrev by_right : (Tuple → Bool) → List Tuple → List Tuple → List Tuple → Bool
by_right f ls ms rs =
    list_any (λ l. list_any (λ m. list_any (λ r. follows m r && (follows l m && f (both l (both m r)))) rs) ms) ls

module _ (f : Tuple → Bool) (ls ms rs : List Tuple) where
  inner : (l m : Tuple) →
      (follows l m && list_any (λ r. follows m r && f (both (both l m) r)) rs)
      ≡ list_any (λ r. follows m r && (follows l m && f (both l (both m r)))) rs
  inner l m =
      pulled (follows l m) (λ r. follows m r && f (both (both l m) r)) rs
      ∙ (λ i. list_any (λ r. and_turned (follows l m) (follows m r) (f (both_turned l m r i)) i) rs)

  either_way : by_left f ls ms rs ≡ by_right f ls ms rs
  either_way = λ i. list_any (λ l. list_any (λ m. inner l m i) ms) ls

  from_left : list_any f (joined follows both (joined follows both ls ms) rs) ≡ by_left f ls ms rs
  from_left =
      joined_any f follows both (joined follows both ls ms) rs
      ∙ joined_any (λ x. list_any (λ r. follows x r && f (both x r)) rs) follows both ls ms

  from_right : list_any f (joined follows both ls (joined follows both ms rs)) ≡ by_right f ls ms rs
  from_right =
      joined_any f follows both ls (joined follows both ms rs)
      ∙ (λ i. list_any (λ l. joined_any (λ x. follows l x && f (both l x)) follows both ms rs i) ls)

-- ---- the same tuples and the same results

turned : (ls ms rs : List Tuple) →
    joined follows both (joined follows both ls ms) rs ≡ joined follows both ls (joined follows both ms rs)
turned ls ms rs =
    same_once left right
    (λ t. sym (has_once left t) ∙ from_left (is_at (tuple_cmp t)) ls ms rs ∙ either_way (is_at (tuple_cmp t)) ls ms rs
    ∙ sym (from_right (is_at (tuple_cmp t)) ls ms rs) ∙ has_once right t)
  where
    left : List Tuple
    left = flat_map (pairs_with follows both rs) (joined follows both ls ms)

    right : List Tuple
    right = flat_map (pairs_with follows both (joined follows both ms rs)) ls

pub brackets_free : BracketsAreFree
brackets_free c b p q r = (same, λ i. map (span_at (place i)) (each_once (flat_map (shown (marked i)) (same i))))
  where
    same : tuples c b (sequence (sequence p q) r) ≡ tuples c b (sequence p (sequence q r))
    same = turned (tuples c b p) (tuples c b q) (tuples c b r)

    marked : is_marked (sequence (sequence p q) r) ≡ is_marked (sequence p (sequence q r))
    marked = any_of_three (is_marked p) (is_marked q) (is_marked r)

    place : shown_place (sequence (sequence p q) r) ≡ shown_place (sequence p (sequence q r))
    place = ap (λ o. unwrap_or o (first_place p)) (or_turned (mark_place p) (mark_place q) (mark_place r))
