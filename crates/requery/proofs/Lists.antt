-- The whole list of what results reach, and that it is there.
use Rattle.std.proofs.Common.{◌≡◌, ◌≢◌, ℕ, ◌+◌, ◌-◌, ◌<◌, ◌≤◌, Bool, true, false, cond, ◌&&◌, ◌==◌, List, [], ◌∷◌, ◌++◌, length, take, get_or, map, Option, None, Some, refl, sym, ap, ◌∙◌, subst, arith, nat_le, nat_lt}
use Rattle.std.specs.Prelude.{All, IfSome, IsSome, option_map}
use Rattle.std.specs.List.{cons_option, filter, filter_map, range_with_len}
use Rattle.std.specs.Option.{option_to_list}
use Rattle.std.proofs.lemmas.Bool.{and_parts, leb-true}
use Rattle.std.proofs.lemmas.Bool.Decides.{nat_tests}
use Rattle.std.proofs.lemmas.List.{length-map, take_more}
use Rattle.std.proofs.lemmas.List.Elements.{All-nil, All-cons, All-head, All-tail, All-weaker, filter_map-append}
use Rattle.level_items.specs.Levels.{ids_of, items_at}
use Rattle.db_config.specs.declared.parts.AttributePlace.{AttributePlace}
use Rattle.db_config.specs.declared.parts.ConfigParts.{ConfigParts}
use Rattle.db_config.specs.Lookups.{attribute_at, place_of}
use Rattle.bundle_state.specs.Bundle.{BundleParts}
use Rattle.hier_closure.specs.Dominance.{ids_at, closure_row, closure_of}
use Rattle.eql_tuples.specs.declared.tuple.Tuple.{Tuple}
use Rattle.eql_rows.specs.declared.span.Span.{Span}
use Rattle.eql_tuples.specs.Shown.{bare}
use Rattle.eql_rows.specs.Spans.{span_at, IsSpanIn, IsStretchIn, AreThere}
use Rattle.eql_rows.specs.Rows.{items_of, least, greatest}
use Rattle.eql_model.proofs.Between.{ids_count}
use Rattle.requery.specs.declared.target.Shift.{Shift}
use Rattle.requery.specs.declared.target.Target.{Target}
use Rattle.requery.specs.declared.target.Target.TheVariants.{Level, Along}
use Rattle.requery.specs.declared.stretches.Way.{Way}
use Rattle.requery.specs.declared.stretches.Way.TheVariants.{Own, Kin}
use Rattle.requery.specs.Target.{level_reached}
use Rattle.requery.specs.Reach.{is_kin, kin_at, whole_stretch, stretch_on, origin, moved_first, stays_in, moved, reach}
use Rattle.requery.specs.Inner.Sound.{IsTargetIn}
use Rattle.requery.specs.Inner.Ways.{AreKinStretches, IsNear, LiesIn, positions_of, stretch_by, union_over}
use Rattle.requery.proofs.Members.{is_in, kept_is, greatest_in, least_under, greatest_over}
use Rattle.requery.proofs.KinFound.{kin_is}

-- ---- one more

one_found : {Y : Type 0} (o : Option Y) → cons_option o [] ≡ option_to_list o
one_found None = refl
one_found (Some y) = refl

pub found_step : {X Y : Type 0} (f : X → Option Y) (xs : List X) (i : ℕ) (d : X) (made more : List Y) (o : Option Y) → i < length xs →
    made ≡ filter_map f (take i xs) → o ≡ f (get_or xs i d) → more ≡ made ++ option_to_list o → more ≡ filter_map f (take (i + 1) xs)
found_step f xs i d made more o h so_far is put =
    put ∙ (λ j. so_far j ++ option_to_list (is j))
    ∙ ap (λ ys. filter_map f (take i xs) ++ ys) (sym (one_found (f (get_or xs i d))))
    ∙ sym (ap (filter_map f) (take_more xs i d h) ∙ filter_map-append f (take i xs) (get_or xs i d ∷ []))

-- ---- two ways of finding the same

front_map : {X Y : Type 0} (f : X → Y) (o : Option X) (xs : List X) → map f (cons_option o xs) ≡ cons_option (option_map f o) (map f xs)
front_map f None xs = refl
front_map f (Some x) xs = refl

shown_same : {X Y Z : Type 0} (shown : Y → Z) (f : X → Option Y) (g : X → Option Z) (xs : List X) → All (λ x. option_map shown (f x) ≡ g x) xs →
    map shown (filter_map f xs) ≡ filter_map g xs
shown_same shown f g [] same = refl
shown_same shown f g (x ∷ xs) same =
    front_map shown (f x) (filter_map f xs)
    ∙ (λ i. cons_option (All-head (λ y. option_map shown (f y) ≡ g y) x xs same i)
    (shown_same shown f g xs (All-tail (λ y. option_map shown (f y) ≡ g y) x xs same) i))

found_same : {X Y : Type 0} (f g : X → Option Y) (xs : List X) → All (λ x. f x ≡ g x) xs → filter_map f xs ≡ filter_map g xs
found_same f g [] same = refl
found_same f g (x ∷ xs) same =
    λ i. cons_option (All-head (λ y. f y ≡ g y) x xs same i) (found_same f g xs (All-tail (λ y. f y ≡ g y) x xs same) i)

abbrev Lies : ConfigParts → BundleParts → ℕ → Span → Type 0
Lies c b level span = IsSpanIn c b span × (span.level ≡ level)

-- ---- by kin

kin_reach : (c : ConfigParts) (b : BundleParts) (place : AttributePlace) (level : ℕ) (stretches : List (Option Tuple)) → place.level ≢ level →
    AreKinStretches (closure_of b place.level level) (closure_of b level place.level) stretches → (span : Span) → Lies c b level span →
    option_map (span_at place) (union_over (λ i. get_or stretches i None) (positions_of span)) ≡ reach b (Level place) span
kin_reach c b place level stretches apart made span lies =
    let here : AreKinStretches (closure_of b place.level span.level) (closure_of b span.level place.level) stretches =
    subst (λ (l : ℕ). AreKinStretches (closure_of b place.level l) (closure_of b l place.level) stretches) (sym lies.1) made in
    let other : (place.level == span.level) ≡ false = other_level place.level span.level (λ same. apart (same ∙ lies.1)) in
    ap (option_map (span_at place)) (kin_is b place.level span lies.0.stretch stretches here
    ∙ ap (λ own. cond own (Some (bare span.first span.last)) (whole_stretch (kin_at b place.level span))) (sym other))
  where
    other_level : (m n : ℕ) → m ≢ n → (m == n) ≡ false
    other_level m n ne = grind (arith, nat_tests)

pub kin_list : (c : ConfigParts) (b : BundleParts) (place : AttributePlace) (level : ℕ) (stretches : List (Option Tuple)) (spans : List Span) → place.level ≢ level →
    AreKinStretches (closure_of b place.level level) (closure_of b level place.level) stretches → AreThere c b level spans →
    map (span_at place) (filter_map (λ span. union_over (λ i. get_or stretches i None) (positions_of span)) spans) ≡ filter_map (reach b (Level place)) spans
kin_list c b place level stretches spans apart made there =
    shown_same (span_at place) (λ span. union_over (λ i. get_or stretches i None) (positions_of span)) (reach b (Level place)) spans
    (All-weaker (Lies c b level) (λ span. option_map (span_at place) (union_over (λ i. get_or stretches i None) (positions_of span)) ≡ reach b (Level place) span)
    (kin_reach c b place level stretches apart made) spans there)

-- the results lie where there are stretches
pub kin_lie : (c : ConfigParts) (b : BundleParts) (place level : ℕ) (stretches : List (Option Tuple)) (spans : List Span) →
    AreKinStretches (closure_of b place level) (closure_of b level place) stretches → AreThere c b level spans →
    All (λ span. span.last < length stretches) spans
kin_lie c b place level stretches spans made there =
    All-weaker (Lies c b level) (λ span. span.last < length stretches)
    (λ span lies.
    let n : length stretches ≡ length (ids_at b.levels level) = made.count ∙ length-map (ids_at b.levels level) (closure_row b.links (ids_at b.levels place)) in
    let m : length (items_at b.levels span.level) ≡ length (ids_at b.levels level) =
    ids_count b.levels span.level ∙ ap (λ l. length (ids_at b.levels l)) lies.1 in
    let within = lies.0.stretch.within in
    omega arith)
    spans there

-- ---- on the level

own_reach : (b : BundleParts) (place : AttributePlace) (level : ℕ) → place.level ≡ level → (span : Span) → span.level ≡ level →
    option_map (span_at place) (Some (bare span.first span.last)) ≡ reach b (Level place) span
own_reach b place level near span lies =
    let same : (place.level == span.level) ≡ true = let e : place.level ≡ span.level = near ∙ sym lies in same_level place.level span.level e in
    ap (λ own. option_map (span_at place) (cond own (Some (bare span.first span.last)) (whole_stretch (kin_at b place.level span)))) (sym same)
  where
    same_level : (m n : ℕ) → m ≡ n → (m == n) ≡ true
    same_level m n e = grind (arith, nat_tests)

pub own_list : (c : ConfigParts) (b : BundleParts) (place : AttributePlace) (level : ℕ) (spans : List Span) → place.level ≡ level → AreThere c b level spans →
    map (span_at place) (filter_map (stretch_by Own) spans) ≡ filter_map (reach b (Level place)) spans
own_list c b place level spans near there =
    shown_same (span_at place) (stretch_by Own) (reach b (Level place)) spans
    (All-weaker (Lies c b level) (λ span. option_map (span_at place) (Some (bare span.first span.last)) ≡ reach b (Level place) span)
    (λ span lies. own_reach b place level near span lies.1) spans there)

pub own_lie : (spans : List Span) → All (LiesIn Own) spans
own_lie spans = λ k d h. tt

pub moved_list : (c : ConfigParts) (b : BundleParts) (shift : Shift) (level count : ℕ) (spans : List Span) → count ≡ length (items_at b.levels level) →
    AreThere c b level spans → filter_map (moved count shift) spans ≡ filter_map (reach b (Along shift)) spans
moved_list c b shift level count spans is there =
    found_same (moved count shift) (reach b (Along shift)) spans
    (All-weaker (Lies c b level) (λ span. moved count shift span ≡ reach b (Along shift) span)
    (λ span lies. ap (λ n. moved n shift span) (is ∙ ap (λ l. length (items_at b.levels l)) (sym lies.1))) spans there)

-- ---- what is reached is there

kept_all : {Y : Type 0} (P : Y → Type 0) (o : Option Y) (ys : List Y) → IfSome o P → All P ys → All P (cons_option o ys)
kept_all P None ys one all = all
kept_all P (Some y) ys one all = All-cons P y ys one all

all_found : {X Y : Type 0} (P : Y → Type 0) (f : X → Option Y) (xs : List X) → All (λ x. IfSome (f x) P) xs → All P (filter_map f xs)
all_found P f [] all = All-nil P
all_found P f (x ∷ xs) all =
    kept_all P (f x) (filter_map f xs) (All-head (λ y. IfSome (f y) P) x xs all) (all_found P f xs (All-tail (λ y. IfSome (f y) P) x xs all))

whole_within : (ks : List ℕ) (n : ℕ) → ((k : ℕ) → is_in k ks ≡ true → k < n) → IfSome (whole_stretch ks) (λ t. (t.first ≤ t.last) × (t.last < n))
whole_within [] n each = tt
whole_within (m ∷ ms) n each =
    let low = least_under m ms in
    let high = greatest_over m ms in
    (omega arith, each (greatest m ms) (greatest_in m ms))

stretch_within : (b : BundleParts) (level : ℕ) (span : Span) (own : Bool) → (own ≡ true → level ≡ span.level) → IsStretchIn b span →
    IfSome (cond own (Some (bare span.first span.last)) (whole_stretch (kin_at b level span))) (λ t. (t.first ≤ t.last) × (t.last < length (items_at b.levels level)))
stretch_within b level span true same there =
    (there.rises, subst (λ (l : ℕ). span.last < length (items_at b.levels l)) (sym (same refl)) there.within)
stretch_within b level span false same there =
    whole_within (kin_at b level span) (length (items_at b.levels level))
    (λ k is. let kept = kept_is (λ j. is_kin b.links (ids_of (items_of b span)) (get_or (ids_at b.levels level) j 0)) k (length (ids_at b.levels level)) is in
    let n = ids_count b.levels level in let h = kept.1 in omega arith)

placed : (c : ConfigParts) (b : BundleParts) (place : AttributePlace) (o : Option Tuple) → IsSome (attribute_at place c.levels) →
    IfSome o (λ t. (t.first ≤ t.last) × (t.last < length (items_at b.levels place.level))) → IfSome (option_map (span_at place) o) (Lies c b place.level)
placed c b place None there within = tt
placed c b place (Some t) there within = (record { attribute = there; stretch = record { rises = within.0; within = within.1 } }, refl)

moved_by : (c : ConfigParts) (b : BundleParts) (shift : Shift) (span : Span) (stays : Bool) → stays_in (length (items_at b.levels span.level)) shift span ≡ stays →
    IsSpanIn c b span →
    IfSome (cond stays (Some (record { level = span.level; attribute = span.attribute; first = moved_first shift span; last = moved_first shift span + shift.length - 1 })) None)
    (Lies c b span.level)
moved_by c b shift span true is there =
    let parts = and_parts (nat_le 1 shift.length && nat_le shift.left (origin shift span + shift.right))
    (nat_le (moved_first shift span + shift.length) (length (items_at b.levels span.level))) is in
    let one = and_parts (nat_le 1 shift.length) (nat_le shift.left (origin shift span + shift.right)) parts.0 in
    let some : 1 ≤ shift.length = leb-true 1 shift.length one.0 in
    let fits : moved_first shift span + shift.length ≤ length (items_at b.levels span.level) =
    leb-true (moved_first shift span + shift.length) (length (items_at b.levels span.level)) parts.1 in
    (record { attribute = there.attribute; stretch = record { rises = rising (moved_first shift span) shift.length some; within = below (moved_first shift span) shift.length (length (items_at b.levels span.level)) some fits } }, refl)
  where
    rising : (m n : ℕ) → 1 ≤ n → m ≤ m + n - 1
    rising m n h = omega arith

    below : (m n k : ℕ) → 1 ≤ n → m + n ≤ k → m + n - 1 < k
    below m n k h fits = omega arith
moved_by c b shift span false is there = tt

one_there : (c : ConfigParts) (b : BundleParts) (level : ℕ) (target : Target) → IsTargetIn c target → (span : Span) → Lies c b level span →
    IfSome (reach b target span) (Lies c b (level_reached level target))
one_there c b level (Level place) there span lies =
    placed c b place (stretch_on b place.level span) there
    (stretch_within b place.level span (place.level == span.level) (λ same. same_levels place.level span.level same) lies.0.stretch)
  where
    same_levels : (m n : ℕ) → (m == n) ≡ true → m ≡ n
    same_levels m n e = grind (arith, nat_tests)
one_there c b level (Along shift) there span lies =
    subst (λ (l : ℕ). IfSome (reach b (Along shift) span) (Lies c b l)) lies.1
    (moved_by c b shift span (stays_in (length (items_at b.levels span.level)) shift span) refl lies.0)

pub reached_there : (c : ConfigParts) (b : BundleParts) (level : ℕ) (target : Target) (spans : List Span) → IsTargetIn c target → AreThere c b level spans →
    AreThere c b (level_reached level target) (filter_map (reach b target) spans)
reached_there c b level target spans there all =
    all_found (Lies c b (level_reached level target)) (reach b target) spans
    (All-weaker (Lies c b level) (λ span. IfSome (reach b target span) (Lies c b (level_reached level target)))
    (one_there c b level target there) spans all)

-- the same by rows that are those of dominance
pub kin_list_by : (c : ConfigParts) (b : BundleParts) (place : AttributePlace) (level : ℕ) (down up : List (List Bool)) (stretches : List (Option Tuple)) (spans : List Span) →
    place.level ≢ level → down ≡ closure_of b place.level level → up ≡ closure_of b level place.level → AreKinStretches down up stretches → AreThere c b level spans →
    map (span_at place) (filter_map (λ span. union_over (λ i. get_or stretches i None) (positions_of span)) spans) ≡ filter_map (reach b (Level place)) spans
kin_list_by c b place level down up stretches spans apart downs ups made there =
    kin_list c b place level stretches spans apart
    (subst (λ (d : List (List Bool)). AreKinStretches d (closure_of b level place.level) stretches) downs
    (subst (λ (u : List (List Bool)). AreKinStretches down u stretches) ups made)) there

pub there_same : (c : ConfigParts) (b : BundleParts) (level other : ℕ) (spans others : List Span) → others ≡ spans → other ≡ level →
    AreThere c b level spans → AreThere c b other others
there_same c b level other spans others same levels there =
    subst (λ (l : ℕ). AreThere c b l others) (sym levels) (subst (λ (ss : List Span). AreThere c b level ss) (sym same) there)
