-- What a user can check of requeries.
use Rattle.std.proofs.Common.{◌≡◌, ℕ, ◌+◌, ◌-◌, ◌<◌, ◌≤◌, Bool, true, false, cond, ◌||◌, ◌&&◌, ◌==◌, List, [], ◌∷◌, length, get_or, map, Option, None, Some, refl, sym, ap, ◌∙◌, subst, arith, nat_le}
use Rattle.std.specs.Prelude.{nat_eq, option_map}
use Rattle.std.specs.List.{cons_option, filter_map, list_any, range_with_len}
use Rattle.std.proofs.lemmas.Bool.{and_parts, leb-true}
use Rattle.std.proofs.lemmas.Bool.Decides.{nat_tests}
use Rattle.level_items.specs.Levels.{ids_of, items_at}
use Rattle.db_config.specs.declared.parts.AttributePlace.{AttributePlace}
use Rattle.bundle_state.specs.Bundle.{BundleParts}
use Rattle.hier_closure.specs.Dominance.{dominates, ids_at}
use Rattle.eql_resolve.specs.Asked.{shown_place}
use Rattle.eql_tuples.specs.declared.tuple.Tuple.{Tuple}
use Rattle.eql_rows.specs.declared.span.Span.{Span}
use Rattle.eql_tuples.specs.Shown.{bare}
use Rattle.eql_rows.specs.Spans.{span_at, IsStretchIn}
use Rattle.eql_model.specs.Results.{stretches}
use Rattle.eql_rows.specs.Rows.{items_of}
use Rattle.eql_model.specs.Rows.{row_of}
use Rattle.eql_model.proofs.Between.{ids_count}
use Rattle.requery.specs.declared.target.Shift.{Shift}
use Rattle.requery.specs.declared.target.Target.TheVariants.{Level, Along}
use Rattle.requery.specs.Reach.{is_kin, kin_at, whole_stretch, moved_first, stays_in, moved, reach}
use Rattle.requery.specs.Laws.{CarriedToItsOwnLevel, KinIsMutual, MovedThereAndBack, alone}
use Rattle.requery.proofs.Members.{is_kept}
use Rattle.requery.proofs.KinFound.{ids_here, or_turned}

-- ---- to the level of the results

level_itself : (n : ℕ) → (n == n) ≡ true
level_itself n = grind (arith, nat_tests)

own_again : (b : BundleParts) (place : AttributePlace) (ts : List Tuple) → filter_map (reach b (Level place)) (map (span_at place) ts) ≡ map (span_at place) ts
own_again b place [] = refl
own_again b place (t ∷ ts) =
    (λ i. cons_option (option_map (span_at place) (cond (level_itself place.level i) (Some (bare t.first t.last))
    (whole_stretch (kin_at b place.level (span_at place t))))) (own_again b place ts i))

pub carried_itself : CarriedToItsOwnLevel
carried_itself c b a =
    ap (map (row_of c b a.time)) (own_again b (shown_place a.query) (stretches c b a.query))

-- ---- right, and back

abbrev right_by : ℕ → ℕ → Shift
right_by far count = record { from_end = false; right = far; left = 0; length = count }

abbrev left_by : ℕ → ℕ → Shift
left_by far count = record { from_end = false; right = 0; left = far; length = count }

chosen : {X : Type 0} (b : Bool) (x y : X) → cond b (Some x) None ≡ Some y → (b ≡ true) × (x ≡ y)
chosen true x y e = (refl, cc)
chosen false x y e = absurd cc

stays : (a b c : Bool) → a ≡ true → b ≡ true → c ≡ true → (a && b && c) ≡ true
stays true true true x y z = refl
stays true true false x y z = absurd cc
stays true false c x y z = absurd cc
stays false b c x y z = absurd cc

le_is : (m n : ℕ) → m ≤ n → nat_le m n ≡ true
le_is m n h = grind (arith, nat_tests)

abbrev along : Span → ℕ → ℕ → Span
along span first last = record { level = span.level; attribute = span.attribute; first = first; last = last }

back : (b : BundleParts) (far count : ℕ) (span : Span) → 1 ≤ count → span.last + 1 ≡ span.first + count → span.last < length (items_at b.levels span.level) →
    reach b (Along (left_by far count)) (along span (span.first + far - 0) (span.first + far - 0 + count - 1)) ≡ Some span
back b far count span some wide within =
    let n = length (items_at b.levels span.level) in
    let one : nat_le 1 count ≡ true = le_is 1 count some in
    let enough : nat_le far (span.first + far - 0 + 0) ≡ true = le_is far (span.first + far - 0 + 0) (omega arith) in
    let first : span.first + far - 0 + 0 - far ≡ span.first = omega arith in
    let fits : nat_le (span.first + far - 0 + 0 - far + count) n ≡ true = le_is (span.first + far - 0 + 0 - far + count) n (omega arith) in
    let last : span.first + far - 0 + 0 - far + count - 1 ≡ span.last = omega arith in
    ap (λ c. cond c (Some (along span (span.first + far - 0 + 0 - far) (span.first + far - 0 + 0 - far + count - 1))) None)
    (stays (nat_le 1 count) (nat_le far (span.first + far - 0 + 0)) (nat_le (span.first + far - 0 + 0 - far + count) n) one enough fits)
    ∙ (λ i. Some (along span (first i) (last i)))

pub there_and_back : MovedThereAndBack
there_and_back b far count span there some wide within moves =
    let by = chosen (stays_in (length (items_at b.levels span.level)) (right_by far count) span)
    (along span (span.first + far - 0) (span.first + far - 0 + count - 1)) there moves in
    subst (λ (s : Span). reach b (Along (left_by far count)) s ≡ Some span) by.1 (back b far count span some wide within)

-- ---- kin

one_kin : (b : BundleParts) (level at x : ℕ) → at < length (items_at b.levels level) →
    is_kin b.links (ids_of (items_of b (alone level at))) x
    ≡ (dominates b.links x (get_or (ids_at b.levels level) at 0) || dominates b.links (get_or (ids_at b.levels level) at 0) x)
one_kin b level at x h =
    let one : at + 1 - at ≡ 1 = omega arith in
    ap (λ ids. is_kin b.links ids x)
    (ids_here b level (alone level at) (record { rises = omega arith; within = h })
    ∙ ap (λ n. map (λ i. get_or (ids_at b.levels level) i 0) (range_with_len at n)) one)
    ∙ end_or (dominates b.links x (get_or (ids_at b.levels level) at 0) || dominates b.links (get_or (ids_at b.levels level) at 0) x)
  where
    end_or : (a : Bool) → (a || false) ≡ a
    end_or true = refl
    end_or false = refl

among_kin : (b : BundleParts) (level other at place : ℕ) → at < length (items_at b.levels level) → place < length (items_at b.levels other) →
    list_any (nat_eq place) (kin_at b other (alone level at))
    ≡ (dominates b.links (get_or (ids_at b.levels other) place 0) (get_or (ids_at b.levels level) at 0)
    || dominates b.links (get_or (ids_at b.levels level) at 0) (get_or (ids_at b.levels other) place 0))
among_kin b level other at place here there =
    is_kept (λ k. is_kin b.links (ids_of (items_of b (alone level at))) (get_or (ids_at b.levels other) k 0)) place (length (ids_at b.levels other))
    (let n = ids_count b.levels other in omega arith)
    ∙ one_kin b level at (get_or (ids_at b.levels other) place 0) here

pub kin_mutual : KinIsMutual
kin_mutual b level other at place here there =
    among_kin b level other at place here there
    ∙ or_turned (dominates b.links (get_or (ids_at b.levels other) place 0) (get_or (ids_at b.levels level) at 0))
    (dominates b.links (get_or (ids_at b.levels level) at 0) (get_or (ids_at b.levels other) place 0))
    ∙ sym (among_kin b other level place at there here)
