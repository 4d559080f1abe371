-- A dominance and its mirror have the same results, where one of the two parts has the mark.
use Rattle.std.proofs.Common.{◌≡◌, ℕ, Bool, true, false, ◌||◌, ◌&&◌, not, List, [], ◌∷◌, map, length, Option, None, Some, refl, sym, ap, ◌∙◌, arith}
use Rattle.std.specs.Prelude.{All, unwrap_or}
use Rattle.std.specs.List.{flat_map, list_any}
use Rattle.std.specs.Option.{option_or, is_some}
use Rattle.std.proofs.lemmas.List.Concat.{flat_map-cons}
use Rattle.std.proofs.lemmas.List.Elements.{All-head, All-tail}
use Rattle.std.proofs.lemmas.List.Folds.{list_any-append}
use Rattle.std.specs.BTreeMap.{is_at}
use Rattle.db_config.specs.declared.parts.AttributePlace.{AttributePlace}
use Rattle.db_config.specs.declared.parts.ConfigParts.{ConfigParts}
use Rattle.bundle_state.specs.Bundle.{BundleParts}
use Rattle.hier_closure.specs.Dominance.{ids_at}
use Rattle.eql_resolve.specs.Asked.{AskedQuery, terms, sequence, dominance, is_marked_term, is_marked, mark_place, first_place, shown_place, level_of}
use Rattle.eql_resolve.proofs.Marks.{mark_some}
use Rattle.eql_tuples.specs.declared.tuple.Tuple.{Tuple}
use Rattle.eql_tuples.specs.Sets.{tuple_cmp, has, each_once}
use Rattle.eql_tuples.specs.Tuples.{stretch, follows, both, left_with}
use Rattle.eql_model.specs.Covers.{covers, one_covers}
use Rattle.eql_model.specs.Meaning.{meets_all, single, tuples}
use Rattle.level_items.specs.Levels.{items_at}
use Rattle.eql_tuples.specs.Shown.{marked_item, shown}
use Rattle.eql_rows.specs.Spans.{span_at}
use Rattle.eql_model.specs.Results.{results}
use Rattle.eql_laws.specs.Laws.{MirrorsAgree}
use Rattle.eql_tuples.proofs.AllOf.{all_joined}
use Rattle.eql_tuples.proofs.Members.{joined_any, same_once}
use Rattle.eql_model.proofs.Shown.{singles_marks}

-- ---- a tuple has a mark exactly where its query has one

abbrev IsMarkedAs : Bool → Tuple → Type 0
IsMarkedAs marked t = is_some t.mark ≡ marked

single_marked : (marked : Bool) (at : ℕ) → IsMarkedAs marked (single marked at)
single_marked true at = refl
single_marked false at = refl

either_some : (m n : Option ℕ) → is_some (option_or m n) ≡ (is_some m || is_some n)
either_some None n = refl
either_some (Some at) n = refl

both_marked : (m n : Option ℕ) (a b : Bool) → is_some m ≡ a → is_some n ≡ b → is_some (option_or m n) ≡ (a || b)
both_marked m n a b left right = either_some m n ∙ (λ i. left i || right i)

all_marked : (c : ConfigParts) (b : BundleParts) (q : AskedQuery) → All (IsMarkedAs (is_marked q)) (tuples c b q)
all_marked c b (terms ts) =
    singles_marks (length (items_at b.levels (level_of (terms ts)))) (IsMarkedAs (list_any is_marked_term ts))
    (list_any is_marked_term ts) (λ at. meets_all c b ts at.1) (λ k h. single_marked (list_any is_marked_term ts) k)
    0 (items_at b.levels (level_of (terms ts))) (omega arith)
all_marked c b (sequence p q) =
    all_joined follows both (IsMarkedAs (is_marked p)) (IsMarkedAs (is_marked q)) (IsMarkedAs (is_marked p || is_marked q))
    (λ l r left right goes. both_marked l.mark r.mark (is_marked p) (is_marked q) left right)
    (tuples c b p) (tuples c b q) (all_marked c b p) (all_marked c b q)
all_marked c b (dominance p q) =
    all_joined (one_covers b.links (ids_at b.levels (level_of p)) (ids_at b.levels (level_of q))) left_with
    (IsMarkedAs (is_marked p)) (IsMarkedAs (is_marked q)) (IsMarkedAs (is_marked p || is_marked q))
    (λ l r left right goes. both_marked l.mark r.mark (is_marked p) (is_marked q) left right)
    (tuples c b p) (tuples c b q) (all_marked c b p) (all_marked c b q)

-- ---- of two of which one is there, the order does not matter

mark_turned : (m n : Option ℕ) → is_some m ≡ not (is_some n) → option_or m n ≡ option_or n m
mark_turned None None one = absurd cc
mark_turned None (Some at) one = refl
mark_turned (Some at) None one = refl
mark_turned (Some at) (Some other) one = absurd cc

place_turned : (m n : Option AttributePlace) (d e : AttributePlace) → is_some m ≡ not (is_some n) →
    unwrap_or (option_or m n) d ≡ unwrap_or (option_or n m) e
place_turned None None d e one = absurd cc
place_turned None (Some place) d e one = refl
place_turned (Some place) None d e one = refl
place_turned (Some place) (Some other) d e one = absurd cc

one_of : (a b : Bool) → a ≡ not b → (a || b) ≡ true
one_of true b one = refl
one_of false true one = refl
one_of false false one = absurd cc

turned : (a b : Bool) → a ≡ not b → b ≡ not a
turned true true one = absurd cc
turned true false one = refl
turned false true one = refl
turned false false one = absurd cc

-- ---- some pair, counted from either side

or_turned : (a b : Bool) → (a || b) ≡ (b || a)
or_turned true true = refl
or_turned true false = refl
or_turned false true = refl
or_turned false false = refl

or_mixed : (a b c d : Bool) → ((a || b) || (c || d)) ≡ ((a || c) || (b || d))
or_mixed true b c d = refl
or_mixed false true true d = refl
or_mixed false true false d = refl
or_mixed false false c d = refl

any_or : (f g : Tuple → Bool) (ts : List Tuple) → (list_any f ts || list_any g ts) ≡ list_any (λ t. f t || g t) ts
any_or f g [] = refl
any_or f g (t ∷ ts) =
    or_mixed (f t) (list_any f ts) (g t) (list_any g ts) ∙ ap (λ b. (f t || g t) || b) (any_or f g ts)

any_of_none : (ts : List Tuple) → false ≡ list_any (λ (t : Tuple). false) ts
any_of_none [] = refl
any_of_none (t ∷ ts) = any_of_none ts

any_swap : (goes : Tuple → Tuple → Bool) (ls rs : List Tuple) →
    list_any (λ l. list_any (λ r. goes l r) rs) ls ≡ list_any (λ r. list_any (λ l. goes l r) ls) rs
any_swap goes [] rs = any_of_none rs
any_swap goes (l ∷ ls) rs =
    ap (λ b. list_any (λ r. goes l r) rs || b) (any_swap goes ls rs)
    ∙ any_or (λ r. goes l r) (λ r. list_any (λ x. goes x r) ls) rs

any_same : (P : Tuple → Type 0) (f g : Tuple → Bool) → ((t : Tuple) → P t → f t ≡ g t) → (ts : List Tuple) → All P ts →
    list_any f ts ≡ list_any g ts
any_same P f g same [] all = refl
any_same P f g same (t ∷ ts) all =
    λ i. same t (All-head P t ts all) i || any_same P f g same ts (All-tail P t ts all) i

-- ---- marks that are shown

shown_has : (t : Tuple) (ts : List Tuple) → has (flat_map (shown true) ts) t ≡ list_any (λ u. has (marked_item u.mark) t) ts
shown_has t [] = refl
shown_has t (u ∷ ts) =
    ap (λ us. has us t) (flat_map-cons (shown true) u ts)
    ∙ list_any-append (is_at (tuple_cmp t)) (shown true u) (flat_map (shown true) ts)
    ∙ ap (λ b. has (marked_item u.mark) t || b) (shown_has t ts)

-- two tuples that go with each other, and whose mark is shown as this tuple
abbrev shows : BundleParts → AskedQuery → AskedQuery → Tuple → Tuple → Tuple → Bool
shows b p q t l r =
    one_covers b.links (ids_at b.levels (level_of p)) (ids_at b.levels (level_of q)) l r
    && has (marked_item (option_or l.mark r.mark)) t

marks_has : (c : ConfigParts) (b : BundleParts) (p q : AskedQuery) (t : Tuple) →
    has (flat_map (shown true) (tuples c b (dominance p q))) t
    ≡ list_any (λ l. list_any (λ r. shows b p q t l r) (tuples c b q)) (tuples c b p)
marks_has c b p q t =
    shown_has t (tuples c b (dominance p q))
    ∙ joined_any (λ u. has (marked_item u.mark) t)
    (one_covers b.links (ids_at b.levels (level_of p)) (ids_at b.levels (level_of q))) left_with (tuples c b p) (tuples c b q)

shows_turned : (b : BundleParts) (p q : AskedQuery) (t l r : Tuple) → is_marked p ≡ not (is_marked q) →
    IsMarkedAs (is_marked p) l → IsMarkedAs (is_marked q) r → shows b p q t l r ≡ shows b q p t r l
shows_turned b p q t l r one left right =
    let ls = stretch (ids_at b.levels (level_of p)) l in
    let rs = stretch (ids_at b.levels (level_of q)) r in
    let goes = or_turned (covers b.links ls rs) (covers b.links rs ls) in
    let mark = mark_turned l.mark r.mark (left ∙ one ∙ ap not (sym right)) in
    λ i. goes i && has (marked_item (mark i)) t

marks_turned : (c : ConfigParts) (b : BundleParts) (p q : AskedQuery) → is_marked p ≡ not (is_marked q) → (t : Tuple) →
    has (flat_map (shown true) (tuples c b (dominance p q))) t ≡ has (flat_map (shown true) (tuples c b (dominance q p))) t
marks_turned c b p q one t =
    marks_has c b p q t
    ∙ any_same (IsMarkedAs (is_marked p)) (λ l. list_any (λ r. shows b p q t l r) (tuples c b q))
    (λ l. list_any (λ r. shows b q p t r l) (tuples c b q))
    (λ l left. any_same (IsMarkedAs (is_marked q)) (λ r. shows b p q t l r) (λ r. shows b q p t r l)
    (λ r right. shows_turned b p q t l r one left right) (tuples c b q) (all_marked c b q))
    (tuples c b p) (all_marked c b p)
    ∙ any_swap (λ l r. shows b q p t r l) (tuples c b p) (tuples c b q) ∙ sym (marks_has c b q p t)

-- ---- results

results_by : (c : ConfigParts) (b : BundleParts) (q : AskedQuery) → is_marked q ≡ true →
    results c b q ≡ map (span_at (shown_place q)) (each_once (flat_map (shown true) (tuples c b q)))
results_by c b q marked = λ i. map (span_at (shown_place q)) (each_once (flat_map (shown (marked i)) (tuples c b q)))

pub mirrored : MirrorsAgree
mirrored c b p q one =
    let place : shown_place (dominance p q) ≡ shown_place (dominance q p) =
    place_turned (mark_place p) (mark_place q) (first_place p) (first_place q)
    (mark_some p ∙ one ∙ ap not (sym (mark_some q))) in
    let marks = same_once (flat_map (shown true) (tuples c b (dominance p q))) (flat_map (shown true) (tuples c b (dominance q p)))
    (marks_turned c b p q one) in
    results_by c b (dominance p q) (one_of (is_marked p) (is_marked q) one)
    ∙ (λ i. map (span_at (place i)) (marks i))
    ∙ sym (results_by c b (dominance q p) (one_of (is_marked q) (is_marked p) (turned (is_marked p) (is_marked q) one)))
