-- The results of a query of two parts are among those of one of them.
use Rattle.std.proofs.Common.{◌≡◌, ℕ, ◌+◌, ◌≤◌, Bool, true, false, cond, ◌||◌, ◌&&◌, not, List, [], ◌∷◌, map, length, Contains, Option, None, Some, refl, sym, ap, subst, ◌∙◌, arith}
use Rattle.std.specs.Prelude.{All, unwrap_or}
use Rattle.std.specs.List.{flat_map, list_any}
use Rattle.std.specs.Option.{option_or, is_some}
use Rattle.std.specs.BTreeMap.{is_at}
use Rattle.std.specs.declared.cmp.Ordering.{Ordering}
use Rattle.std.specs.declared.cmp.Ordering.TheVariants.{Less, Equal, Greater}
use Rattle.std.specs.Ordering.{is_eq, ordering_reverse}
use Rattle.std.proofs.lemmas.Bool.{or_parts, and_parts}
use Rattle.std.proofs.lemmas.List.Concat.{flat_map-cons}
use Rattle.std.proofs.lemmas.List.Elements.{All-map, All-weaker, All-contains, All-contains_itself}
use Rattle.std.proofs.lemmas.List.Folds.{list_any-append}
use Rattle.level_items.specs.Levels.{items_at}
use Rattle.db_config.specs.declared.parts.AttributePlace.{AttributePlace}
use Rattle.db_config.specs.declared.parts.ConfigParts.{ConfigParts}
use Rattle.bundle_state.specs.Bundle.{BundleParts}
use Rattle.hier_closure.specs.Dominance.{ids_at}
use Rattle.eql_resolve.specs.Asked.{AskedQuery, terms, sequence, dominance, is_marked_term, is_marked, mark_place, first_place, shown_place, level_of}
use Rattle.eql_resolve.proofs.Marks.{mark_some}
use Rattle.eql_tuples.specs.declared.tuple.Tuple.{Tuple}
use Rattle.eql_rows.specs.declared.span.Span.{Span}
use Rattle.eql_tuples.specs.Sets.{tuple_cmp, has, each_once}
use Rattle.eql_tuples.specs.Tuples.{follows, both, left_with, joined}
use Rattle.eql_model.specs.Covers.{one_covers}
use Rattle.eql_model.specs.Meaning.{meets_all, single, tuples}
use Rattle.eql_tuples.specs.Shown.{marked_item, shown}
use Rattle.eql_rows.specs.Spans.{span_at}
use Rattle.eql_model.specs.Results.{results}
use Rattle.eql_tuples.proofs.AllOf.{all_joined}
use Rattle.eql_tuples.proofs.Members.{joined_any, has_once, same_tuple, tuples_total}
use Rattle.eql_model.proofs.Shown.{singles_marks}
use Rattle.eql_laws.specs.Laws.{AreAmong, marked_part, DominanceSelects, MarkedPartSelects}
use Rattle.eql_laws.proofs.Members.{in_map, any_at, any_hit}

-- ---- a tuple is in a set where the test says so

equal_by : (o : Ordering) → o ≡ ordering_reverse o → is_eq o ≡ true
equal_by Less turned = absurd cc
equal_by Equal turned = refl
equal_by Greater turned = absurd cc

itself : (t : Tuple) → is_at (tuple_cmp t) t ≡ true
itself t = equal_by (tuple_cmp t t) (tuples_total.antisymm t t)

same_by : (o : Ordering) (t u : Tuple) → tuple_cmp t u ≡ o → is_eq o ≡ true → u ≡ t
same_by Less t u is hit = absurd cc
same_by Equal t u is hit = sym (same_tuple t u is)
same_by Greater t u is hit = absurd cc

is_in : (ts : List Tuple) (t : Tuple) → has ts t ≡ true → Contains ts t
is_in ts t yes_it_has =
    let hit = any_hit (is_at (tuple_cmp t)) ts yes_it_has in
    subst (Contains ts) (same_by (tuple_cmp t hit.0) t hit.0 refl hit.2) hit.1

has_it : (ts : List Tuple) (t : Tuple) → Contains ts t → has ts t ≡ true
has_it ts t at = any_at (is_at (tuple_cmp t)) ts t at (itself t)

-- ---- what the tuples of one list show, those of another show too

abbrev ShowsIn : (Tuple → List Tuple) → List Tuple → List Tuple → Type 0
ShowsIn show xs ys = (u : Tuple) → has (flat_map show xs) u ≡ true → has (flat_map show ys) u ≡ true

among : (place : AttributePlace) (xs ys : List Tuple) → ((u : Tuple) → has xs u ≡ true → has ys u ≡ true) →
    AreAmong (map (span_at place) (each_once xs)) (map (span_at place) (each_once ys))
among place xs ys more =
    All-map (Contains (map (span_at place) (each_once ys))) (span_at place) (each_once xs)
    (All-weaker (Contains (each_once xs)) (λ u. Contains (map (span_at place) (each_once ys)) (span_at place u))
    (λ u at. in_map (span_at place) (each_once ys) u
    (is_in (each_once ys) u (has_once ys u ∙ more u (sym (has_once xs u) ∙ has_it (each_once xs) u at))))
    (each_once xs) (All-contains_itself (each_once xs)))

results_by : (c : ConfigParts) (b : BundleParts) (q : AskedQuery) (marked : Bool) (place : AttributePlace) →
    is_marked q ≡ marked → shown_place q ≡ place →
    results c b q ≡ map (span_at place) (each_once (flat_map (shown marked) (tuples c b q)))
results_by c b q marked place mark at = λ i. map (span_at (at i)) (each_once (flat_map (shown (mark i)) (tuples c b q)))

results_among : (c : ConfigParts) (b : BundleParts) (q part : AskedQuery) (marked : Bool) →
    is_marked q ≡ marked → is_marked part ≡ marked → shown_place q ≡ shown_place part →
    ShowsIn (shown marked) (tuples c b q) (tuples c b part) → AreAmong (results c b q) (results c b part)
results_among c b q part marked whole own place more =
    let left = results_by c b q marked (shown_place part) whole place in
    let right = results_by c b part marked (shown_place part) own refl in
    let shows = among (shown_place part) (flat_map (shown marked) (tuples c b q)) (flat_map (shown marked) (tuples c b part)) more in
    subst (λ (rs : List Span). AreAmong rs (results c b part)) (sym left)
    (subst (AreAmong (map (span_at (shown_place part)) (each_once (flat_map (shown marked) (tuples c b q))))) (sym right) shows)

-- ---- a tuple has a mark exactly where its query has one

abbrev IsMarkedAs : Bool → Tuple → Type 0
IsMarkedAs marked t = is_some t.mark ≡ marked

single_marked : (marked : Bool) (at : ℕ) → IsMarkedAs marked (single marked at)
single_marked true at = refl
single_marked false at = refl

either_some : (m n : Option ℕ) → is_some (option_or m n) ≡ (is_some m || is_some n)
either_some None n = refl
either_some (Some at) n = refl

both_marked : (m n : Option ℕ) (a b : Bool) → is_some m ≡ a → is_some n ≡ b → is_some (option_or m n) ≡ (a || b)
both_marked m n a b left right = either_some m n ∙ (λ i. left i || right i)

all_marked : (c : ConfigParts) (b : BundleParts) (q : AskedQuery) → All (IsMarkedAs (is_marked q)) (tuples c b q)
all_marked c b (terms ts) =
    singles_marks (length (items_at b.levels (level_of (terms ts)))) (IsMarkedAs (list_any is_marked_term ts))
    (list_any is_marked_term ts) (λ at. meets_all c b ts at.1) (λ k h. single_marked (list_any is_marked_term ts) k)
    0 (items_at b.levels (level_of (terms ts))) (omega arith)
all_marked c b (sequence p q) =
    all_joined follows both (IsMarkedAs (is_marked p)) (IsMarkedAs (is_marked q)) (IsMarkedAs (is_marked p || is_marked q))
    (λ l r left right goes. both_marked l.mark r.mark (is_marked p) (is_marked q) left right)
    (tuples c b p) (tuples c b q) (all_marked c b p) (all_marked c b q)
all_marked c b (dominance p q) =
    all_joined (one_covers b.links (ids_at b.levels (level_of p)) (ids_at b.levels (level_of q))) left_with
    (IsMarkedAs (is_marked p)) (IsMarkedAs (is_marked q)) (IsMarkedAs (is_marked p || is_marked q))
    (λ l r left right goes. both_marked l.mark r.mark (is_marked p) (is_marked q) left right)
    (tuples c b p) (tuples c b q) (all_marked c b p) (all_marked c b q)

-- ---- what is shown, and of which pair

shown_any : (show : Tuple → List Tuple) (ts : List Tuple) (u : Tuple) → has (flat_map show ts) u ≡ list_any (λ t. has (show t) u) ts
shown_any show [] u = refl
shown_any show (t ∷ ts) u =
    ap (λ us. has us u) (flat_map-cons show t ts)
    ∙ list_any-append (is_at (tuple_cmp u)) (show t) (flat_map show ts)
    ∙ ap (λ b. has (show t) u || b) (shown_any show ts u)

-- a left and a right tuple make one that passes
record Pair (make : Tuple → Tuple → Tuple) (ls rs : List Tuple) (f : Tuple → Bool) : Type 0 where
  left : Tuple
  right : Tuple
  on_left : Contains ls left
  on_right : Contains rs right
  passes : f (make left right) ≡ true

module _ (goes : Tuple → Tuple → Bool) (make : Tuple → Tuple → Tuple) (ls rs : List Tuple) where
  a_pair : (f : Tuple → Bool) → list_any f (joined goes make ls rs) ≡ true → Pair make ls rs f
  a_pair f any =
      let l = any_hit (λ l. list_any (λ r. goes l r && f (make l r)) rs) ls (sym (joined_any f goes make ls rs) ∙ any) in
      let r = any_hit (λ r. goes l.0 r && f (make l.0 r)) rs l.2 in
      record {
        left = l.0;
        right = r.0;
        on_left = l.1;
        on_right = r.1;
        passes = (and_parts (goes l.0 r.0) (f (make l.0 r.0)) r.2).1;
      }

  shows_pair : (show : Tuple → List Tuple) (u : Tuple) → has (flat_map show (joined goes make ls rs)) u ≡ true →
      Pair make ls rs (λ t. has (show t) u)
  shows_pair show u shows = a_pair (λ t. has (show t) u) (sym (shown_any show (joined goes make ls rs) u) ∙ shows)

  -- what is shown of a pair is shown of its left tuple
  left_shows : (show : Tuple → List Tuple) → ((l r : Tuple) → Contains ls l → show (make l r) ≡ show l) →
      ShowsIn show (joined goes make ls rs) ls
  left_shows show same u shows =
      let pair = shows_pair show u shows in
      shown_any show ls u
      ∙ any_at (λ t. has (show t) u) ls pair.left pair.on_left
      (ap (λ ts. has ts u) (sym (same pair.left pair.right pair.on_left)) ∙ pair.passes)

  -- or of its right one
  right_shows : (show : Tuple → List Tuple) → ((l r : Tuple) → Contains ls l → show (make l r) ≡ show r) →
      ShowsIn show (joined goes make ls rs) rs
  right_shows show same u shows =
      let pair = shows_pair show u shows in
      shown_any show rs u
      ∙ any_at (λ t. has (show t) u) rs pair.right pair.on_right
      (ap (λ ts. has ts u) (sym (same pair.left pair.right pair.on_left)) ∙ pair.passes)

-- ---- of two marks and two attributes, that of the part with the mark

left_mark : {A : Type 0} (m n : Option A) → is_some m ≡ true → option_or m n ≡ m
left_mark None n is = absurd cc
left_mark (Some x) n is = refl

right_mark : {A : Type 0} (m n : Option A) → is_some m ≡ false → option_or m n ≡ n
right_mark None n is = refl
right_mark (Some x) n is = absurd cc

any_default : {A : Type 0} (m : Option A) (d e : A) → is_some m ≡ true → unwrap_or m d ≡ unwrap_or m e
any_default None d e is = absurd cc
any_default (Some x) d e is = refl

-- ---- a dominance without a mark

neither_place : (m n : Option AttributePlace) (d : AttributePlace) → is_some m ≡ false → is_some n ≡ false →
    unwrap_or (option_or m n) d ≡ unwrap_or m d
neither_place None None d left right = refl
neither_place None (Some place) d left right = absurd cc
neither_place (Some place) n d left right = absurd cc

pub selects : DominanceSelects
selects c b p q unmarked =
    let parts = or_parts (is_marked p) (is_marked q) unmarked in
    results_among c b (dominance p q) p false unmarked parts.0
    (neither_place (mark_place p) (mark_place q) (first_place p) (mark_some p ∙ parts.0) (mark_some q ∙ parts.1))
    (left_shows (one_covers b.links (ids_at b.levels (level_of p)) (ids_at b.levels (level_of q))) left_with
    (tuples c b p) (tuples c b q) (shown false) (λ l r at. refl))

-- ---- a part with the mark

module _ (c : ConfigParts) (b : BundleParts) (p q : AskedQuery) where
  marks : (marked : Bool) → is_marked p ≡ marked → (l : Tuple) → Contains (tuples c b p) l → is_some l.mark ≡ marked
  marks marked is l at = All-contains (IsMarkedAs (is_marked p)) (tuples c b p) l (all_marked c b p) at ∙ is

  module _ (goes : Tuple → Tuple → Bool) (make : Tuple → Tuple → Tuple) (mark : (l r : Tuple) → (make l r).mark ≡ option_or l.mark r.mark) where
    by_left : is_marked p ≡ true → ShowsIn (shown true) (joined goes make (tuples c b p) (tuples c b q)) (tuples c b p)
    by_left is =
        left_shows goes make (tuples c b p) (tuples c b q) (shown true)
        (λ l r at. ap marked_item (mark l r ∙ left_mark l.mark r.mark (marks true is l at)))

    by_right : is_marked p ≡ false → ShowsIn (shown true) (joined goes make (tuples c b p) (tuples c b q)) (tuples c b q)
    by_right is =
        right_shows goes make (tuples c b p) (tuples c b q) (shown true)
        (λ l r at. ap marked_item (mark l r ∙ right_mark l.mark r.mark (marks false is l at)))

  left_place : is_marked p ≡ true → unwrap_or (option_or (mark_place p) (mark_place q)) (first_place p) ≡ shown_place p
  left_place is = ap (λ o. unwrap_or o (first_place p)) (left_mark (mark_place p) (mark_place q) (mark_some p ∙ is))

  right_place : is_marked p ≡ false → is_marked q ≡ true →
      unwrap_or (option_or (mark_place p) (mark_place q)) (first_place p) ≡ shown_place q
  right_place none one =
      ap (λ o. unwrap_or o (first_place p)) (right_mark (mark_place p) (mark_place q) (mark_some p ∙ none))
      ∙ any_default (mark_place q) (first_place p) (first_place q) (mark_some q ∙ one)

  left_part : is_marked p ≡ true →
      AreAmong (results c b (sequence p q)) (results c b p) × AreAmong (results c b (dominance p q)) (results c b p)
  left_part is =
      let whole : (is_marked p || is_marked q) ≡ true = ap (λ m. m || is_marked q) is in (
        results_among c b (sequence p q) p true whole is (left_place is) (by_left follows both (λ l r. refl) is),
        results_among c b (dominance p q) p true whole is (left_place is) (by_left (one_covers b.links (ids_at b.levels (level_of p)) (ids_at b.levels (level_of q))) left_with (λ l r. refl) is),
      )

  right_part : is_marked p ≡ false → is_marked q ≡ true →
      AreAmong (results c b (sequence p q)) (results c b q) × AreAmong (results c b (dominance p q)) (results c b q)
  right_part none one =
      let whole : (is_marked p || is_marked q) ≡ true = (λ i. none i || one i) in (
        results_among c b (sequence p q) q true whole one (right_place none one) (by_right follows both (λ l r. refl) none),
        results_among c b (dominance p q) q true whole one (right_place none one) (by_right (one_covers b.links (ids_at b.levels (level_of p)) (ids_at b.levels (level_of q))) left_with (λ l r. refl) none),
      )

  -- the part that has the mark, by whether the left one has it
  by_mark : (m : Bool) → is_marked p ≡ m → m ≡ not (is_marked q) →
      AreAmong (results c b (sequence p q)) (results c b (cond m p q))
      × AreAmong (results c b (dominance p q)) (results c b (cond m p q))
  by_mark true is one = left_part is
  by_mark false is one = right_part is (has_mark (is_marked q) one)
    where
      has_mark : (n : Bool) → false ≡ not n → n ≡ true
      has_mark true e = refl
      has_mark false e = absurd cc

pub marked_selects : MarkedPartSelects
marked_selects c b p q one = by_mark c b p q (is_marked p) refl one
