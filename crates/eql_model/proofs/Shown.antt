-- The results of a query are there in its bundle, and are no more than its tuples.
use Rattle.std.proofs.Common.{◌≡◌, ℕ, suc, ◌+◌, ◌<◌, ◌≤◌, Bool, true, false, cond, ◌||◌, List, [], ◌∷◌, length, map, Option, None, Some, Err, refl, sym, ap, subst, ◌∙◌, arith, nat_lt, nat_le}
use Rattle.std.specs.Prelude.{All, IsSome, unwrap_or, option_map}
use Rattle.std.specs.List.{filter, flat_map, list_all, list_any, enumerate_from, find}
use Rattle.std.specs.Option.{option_or, is_some}
use Rattle.std.specs.BTreeSet.{insert_key}
use Rattle.std.specs.Ordering.{match_ordering}
use Rattle.std.specs.declared.cmp.Ordering.{Ordering}
use Rattle.std.specs.declared.cmp.Ordering.TheVariants.{Less, Equal, Greater}
use Rattle.std.proofs.lemmas.Bool.{and_parts, or_parts, leb-true, ltb-true, eqb-true}
use Rattle.std.proofs.lemmas.Bool.Decides.{nat_tests}
use Rattle.std.proofs.lemmas.List.{length-append}
use Rattle.std.proofs.lemmas.List.Concat.{flat_map-cons}
use Rattle.std.proofs.lemmas.List.Elements.{All-nil, All-cons, All-head, All-tail, All-append}
use Rattle.level_items.specs.declared.items.Item.{Item}
use Rattle.level_items.specs.Levels.{Level, items_at}
use Rattle.db_config.specs.declared.parts.AttributePlace.{AttributePlace}
use Rattle.db_config.specs.declared.parts.ConfigParts.{ConfigParts}
use Rattle.db_config.specs.Lookups.{attribute_at}
use Rattle.bundle_state.specs.Bundle.{BundleParts}
use Rattle.bundle_state.specs.Built.{FitsConfig}
use Rattle.hier_closure.specs.Dominance.{ids_at}
use Rattle.eql_resolve.specs.Asked.{AskedTerm, AskedQuery, terms, sequence, dominance, is_marked_term, term_place, is_on, term_level, level_of, is_marked, marked_of, mark_place, first_place, shown_place, result_level, AreOnOneLevel}
use Rattle.eql_resolve.specs.Sound.{IsQueryOf}
use Rattle.eql_resolve.proofs.Kept.{shown_there, result_within}
use Rattle.eql_resolve.proofs.Marks.{mark_some}
use Rattle.eql_tuples.specs.declared.tuple.Tuple.{Tuple}
use Rattle.eql_rows.specs.declared.span.Span.{Span}
use Rattle.eql_tuples.specs.declared.faults.MatchFault.{MatchFault}
use Rattle.eql_tuples.specs.declared.faults.MatchFault.TheVariants.{TooManyTuples, Memory}
use Rattle.eql_tuples.specs.Sets.{tuple_cmp, put_all, each_once, is_over}
use Rattle.eql_tuples.specs.Inner.Sets.{GivesSet}
use Rattle.eql_tuples.specs.Tuples.{fits_in, follows, both, left_with}
use Rattle.eql_model.specs.Covers.{one_covers}
use Rattle.eql_model.specs.Meaning.{meets_all, single, tuples, has_too_many}
use Rattle.eql_tuples.specs.Shown.{bare, marked_item, shown}
use Rattle.eql_model.specs.Results.{stretches, results}
use Rattle.eql_rows.specs.Spans.{span_at, IsSpanIn, AreThere}
use Rattle.eql_model.specs.Inner.Results.{Matches}
use Rattle.eql_tuples.proofs.AllOf.{all_once, all_joined}
use Rattle.eql_model.proofs.Fitting.{tuples_fit, levels_same}

-- ---- marks lie on the level of the marked condition, and all tuples have one where there is one

abbrev pub MarkOn : List Level → Option AttributePlace → Option ℕ → Type 0
MarkOn levels None None = Unit {0}
MarkOn levels None (Some at) = ⊥
MarkOn levels (Some place) None = ⊥
MarkOn levels (Some place) (Some at) = at < length (items_at levels place.level)

either_mark : (levels : List Level) (p q : Option AttributePlace) (m n : Option ℕ) → MarkOn levels p m → MarkOn levels q n →
    MarkOn levels (option_or p q) (option_or m n)
either_mark levels None q None n left right = right
either_mark levels None q (Some at) n left right = absurd left
either_mark levels (Some place) q None n left right = absurd left
either_mark levels (Some place) q (Some at) n left right = left

marks_joined : (levels : List Level) (p q : Option AttributePlace) (goes : Tuple → Tuple → Bool) (make : Tuple → Tuple → Tuple) →
    ((l r : Tuple) → (make l r).mark ≡ option_or l.mark r.mark) → (l r : Tuple) → MarkOn levels p l.mark → MarkOn levels q r.mark →
    goes l r ≡ true → MarkOn levels (option_or p q) (make l r).mark
marks_joined levels p q goes make mark l r left right goes_it =
    subst (MarkOn levels (option_or p q)) (sym (mark l r)) (either_mark levels p q l.mark r.mark left right)

-- the mark of a conjunction, by whether a condition is marked
data MarkedBy (level : ℕ) : Bool → Option AttributePlace → Type 0 where
  marked_at : (place : AttributePlace) → place.level ≡ level → MarkedBy level true (Some place)
  unmarked : MarkedBy level false None

marked_front : (level : ℕ) (b : Bool) (t : AskedTerm) (ts : List AskedTerm) → term_level t ≡ level →
    MarkedBy level (list_any is_marked_term ts) (marked_of ts) →
    MarkedBy level (b || list_any is_marked_term ts) (option_map term_place (cond b (Some t) (find is_marked_term ts)))
marked_front level true t ts on rest = marked_at (term_place t) on
marked_front level false t ts on rest = rest

marked_by : (level : ℕ) (ts : List AskedTerm) → list_all (is_on level) ts ≡ true → MarkedBy level (list_any is_marked_term ts) (marked_of ts)
marked_by level [] one = unmarked
marked_by level (t ∷ ts) one =
    let parts = and_parts (is_on level t) (list_all (is_on level) ts) one in
    marked_front level (is_marked_term t) t ts (eqb-true (term_level t) level parts.0) (marked_by level ts parts.1)

single_mark : (levels : List Level) (level n at : ℕ) (b : Bool) (o : Option AttributePlace) → MarkedBy level b o →
    n ≡ length (items_at levels level) → at < n → MarkOn levels o (single b at).mark
single_mark levels level n at b o (marked_at place on) same h =
    subst (λ (m : ℕ). at < m) (same ∙ ap (λ k. length (items_at levels k)) (sym on)) h
single_mark levels level n at b o unmarked same h = tt

kept_marks : (b : Bool) (P : Tuple → Type 0) (f : ℕ × Item → Tuple) (at : ℕ × Item) (kept : List (ℕ × Item)) → P (f at) →
    All P (map f kept) → All P (map f (cond b (at ∷ kept) kept))
kept_marks true P f at kept one rest = All-cons P (f at) (map f kept) one rest
kept_marks false P f at kept one rest = rest

pub singles_marks : (n : ℕ) (P : Tuple → Type 0) (marked : Bool) (p : ℕ × Item → Bool) → ((k : ℕ) → k < n → P (single marked k)) →
    (k : ℕ) (items : List Item) → k + length items ≤ n →
    All P (map (λ (e : ℕ × Item). single marked e.0) (filter p (enumerate_from k items)))
singles_marks n P marked p each k [] h = All-nil P
singles_marks n P marked p each k (x ∷ items) h =
    kept_marks (p (k, x)) P (λ (e : ℕ × Item). single marked e.0) (k, x) (filter p (enumerate_from (k + 1) items))
    (each k (omega arith)) (singles_marks n P marked p each (k + 1) items (omega arith))

pub marks_on : (c : ConfigParts) (b : BundleParts) (q : AskedQuery) → AreOnOneLevel q →
    All (λ t. MarkOn b.levels (mark_place q) t.mark) (tuples c b q)
marks_on c b (terms ts) one =
    singles_marks (length (items_at b.levels (level_of (terms ts)))) (λ t. MarkOn b.levels (marked_of ts) t.mark)
    (list_any is_marked_term ts) (λ at. meets_all c b ts at.1)
    (λ k h. single_mark b.levels (level_of (terms ts)) (length (items_at b.levels (level_of (terms ts)))) k (list_any is_marked_term ts)
    (marked_of ts) (marked_by (level_of (terms ts)) ts one) refl h)
    0 (items_at b.levels (level_of (terms ts))) (omega arith)
marks_on c b (sequence p q) one =
    all_joined follows both (λ t. MarkOn b.levels (mark_place p) t.mark) (λ t. MarkOn b.levels (mark_place q) t.mark)
    (λ t. MarkOn b.levels (option_or (mark_place p) (mark_place q)) t.mark)
    (marks_joined b.levels (mark_place p) (mark_place q) follows both (λ l r. refl))
    (tuples c b p) (tuples c b q) (marks_on c b p one.0) (marks_on c b q one.1)
marks_on c b (dominance p q) one =
    all_joined (one_covers b.links (ids_at b.levels (level_of p)) (ids_at b.levels (level_of q))) left_with
    (λ t. MarkOn b.levels (mark_place p) t.mark) (λ t. MarkOn b.levels (mark_place q) t.mark)
    (λ t. MarkOn b.levels (option_or (mark_place p) (mark_place q)) t.mark)
    (marks_joined b.levels (mark_place p) (mark_place q)
    (one_covers b.links (ids_at b.levels (level_of p)) (ids_at b.levels (level_of q))) left_with (λ l r. refl))
    (tuples c b p) (tuples c b q) (marks_on c b p one.0) (marks_on c b q one.1)

-- ---- the stretches of the results lie on the level of the results

abbrev Lies : List Level → ℕ → Tuple → Type 0
Lies levels level t = (t.first ≤ t.last) × (t.last < length (items_at levels level))

lies_from : (levels : List Level) (level : ℕ) (t : Tuple) → fits_in (length (items_at levels level)) t ≡ true → Lies levels level t
lies_from levels level t fits =
    let parts = and_parts (nat_le t.first t.last) (nat_lt t.last (length (items_at levels level))) fits in
    (leb-true t.first t.last parts.0, ltb-true t.last (length (items_at levels level)) parts.1)

mark_lies : (levels : List Level) (place : AttributePlace) (m : Option ℕ) → MarkOn levels (Some place) m →
    All (Lies levels place.level) (marked_item m)
mark_lies levels place None on = absurd on
mark_lies levels place (Some at) on =
    All-cons (Lies levels place.level) (bare at at) [] (omega arith, on) (All-nil (Lies levels place.level))

shown_all : (marked : Bool) (P R : Tuple → Type 0) → ((t : Tuple) → P t → All R (shown marked t)) → (ts : List Tuple) → All P ts →
    All R (flat_map (shown marked) ts)
shown_all marked P R one [] all = All-nil R
shown_all marked P R one (t ∷ ts) all =
    subst (All R) (sym (flat_map-cons (shown marked) t ts))
    (All-append R (shown marked t) (flat_map (shown marked) ts) (one t (All-head P t ts all))
    (shown_all marked P R one ts (All-tail P t ts all)))

lie_by : (levels : List Level) (o : Option AttributePlace) (first : AttributePlace) (marked : Bool) (ts : List Tuple) →
    is_some o ≡ marked → All (λ t. fits_in (length (items_at levels first.level)) t ≡ true) ts → All (λ t. MarkOn levels o t.mark) ts →
    All (Lies levels (unwrap_or o first).level) (flat_map (shown marked) ts)
lie_by levels None first true ts is fits marks = absurd cc
lie_by levels None first false ts is fits marks =
    shown_all false (λ t. fits_in (length (items_at levels first.level)) t ≡ true) (Lies levels first.level)
    (λ t fit. All-cons (Lies levels first.level) (bare t.first t.last) [] (lies_from levels first.level t fit) (All-nil (Lies levels first.level)))
    ts fits
lie_by levels (Some place) first false ts is fits marks = absurd cc
lie_by levels (Some place) first true ts is fits marks =
    shown_all true (λ t. MarkOn levels (Some place) t.mark) (Lies levels place.level)
    (λ t on. mark_lies levels place t.mark on) ts marks

stretches_lie : (c : ConfigParts) (b : BundleParts) (q : AskedQuery) → AreOnOneLevel q →
    All (Lies b.levels (result_level q)) (stretches c b q)
stretches_lie c b q one =
    all_once (Lies b.levels (result_level q)) (flat_map (shown (is_marked q)) (tuples c b q))
    (lie_by b.levels (mark_place q) (first_place q) (is_marked q) (tuples c b q) (mark_some q) (tuples_fit c b q one) (marks_on c b q one))

spans_there : (c : ConfigParts) (b : BundleParts) (q : AskedQuery) → IsQueryOf c q → (ts : List Tuple) →
    All (Lies b.levels (result_level q)) ts → AreThere c b (result_level q) (map (span_at (shown_place q)) ts)
spans_there c b q within [] lie = All-nil (λ span. IsSpanIn c b span × (span.level ≡ result_level q))
spans_there c b q within (t ∷ ts) lie =
    let here = All-head (Lies b.levels (result_level q)) t ts lie in
    All-cons (λ span. IsSpanIn c b span × (span.level ≡ result_level q)) (span_at (shown_place q) t) (map (span_at (shown_place q)) ts)
    (record { attribute = shown_there c q within; stretch = record { rises = here.0; within = here.1 } }, refl)
    (spans_there c b q within ts (All-tail (Lies b.levels (result_level q)) t ts lie))

-- the results of a query are there
pub results_there : (c : ConfigParts) (b : BundleParts) (q : AskedQuery) → IsQueryOf c q → AreOnOneLevel q →
    AreThere c b (result_level q) (results c b q)
results_there c b q within one = spans_there c b q within (stretches c b q) (stretches_lie c b q one)

-- ---- there are no more results than tuples

insert_by : (o : Ordering) (t x : Tuple) (xs ys : List Tuple) → length ys ≤ suc (length xs) →
    length (match_ordering o (t ∷ x ∷ xs) (x ∷ xs) (x ∷ ys)) ≤ suc (length (x ∷ xs))
insert_by Less t x xs ys h = omega arith
insert_by Equal t x xs ys h = omega arith
insert_by Greater t x xs ys h = omega arith

insert_one : (set : List Tuple) (t : Tuple) → length (insert_key tuple_cmp set t) ≤ suc (length set)
insert_one [] t = omega arith
insert_one (x ∷ xs) t = insert_by (tuple_cmp t x) t x xs (insert_key tuple_cmp xs t) (insert_one xs t)

put_few : (set ts : List Tuple) → length (put_all set ts) ≤ length set + length ts
put_few set [] = omega arith
put_few set (t ∷ ts) =
    let rest = put_few (insert_key tuple_cmp set t) ts in let one = insert_one set t in omega arith

marked_few : (m : Option ℕ) → length (marked_item m) ≤ 1
marked_few None = omega arith
marked_few (Some at) = omega arith

one_shown : (marked : Bool) (t : Tuple) → length (shown marked t) ≤ 1
one_shown true t = marked_few t.mark
one_shown false t = omega arith

shown_few : (marked : Bool) (ts : List Tuple) → length (flat_map (shown marked) ts) ≤ length ts
shown_few marked [] = omega arith
shown_few marked (t ∷ ts) =
    let parts : length (flat_map (shown marked) (t ∷ ts)) ≡ length (shown marked t) + length (flat_map (shown marked) ts) =
    ap length (flat_map-cons (shown marked) t ts) ∙ length-append (shown marked t) (flat_map (shown marked) ts) in
    let one = one_shown marked t in let rest = shown_few marked ts in omega arith

over_fewer : (xs ys : List Tuple) → length xs ≤ length ys → is_over ys ≡ false → is_over xs ≡ false
over_fewer xs ys h few = grind (arith, nat_tests)

results_few : (marked : Bool) (ts : List Tuple) → is_over ts ≡ false → is_over (each_once (flat_map (shown marked) ts)) ≡ false
results_few marked ts few =
    over_fewer (each_once (flat_map (shown marked) ts)) ts
    (let put = put_few [] (flat_map (shown marked) ts) in let show = shown_few marked ts in omega arith) few

whole_few : (c : ConfigParts) (b : BundleParts) (q : AskedQuery) → has_too_many c b q ≡ false → is_over (tuples c b q) ≡ false
whole_few c b (terms ts) few = few
whole_few c b (sequence p q) few = (or_parts (has_too_many c b p || has_too_many c b q) (is_over (tuples c b (sequence p q))) few).1
whole_few c b (dominance p q) few = (or_parts (has_too_many c b p || has_too_many c b q) (is_over (tuples c b (dominance p q))) few).1

-- putting together what is shown of tuples that were found does not fail for their number
pub never_over : {A : Type 0} (c : ConfigParts) (b : BundleParts) (q : AskedQuery) (marked : Bool) (found : List Tuple) → marked ≡ is_marked q →
    (found ≡ tuples c b q) × (has_too_many c b q ≡ false) → is_over (each_once (flat_map (shown marked) found)) ≡ true → A
never_over c b q marked found mark finds over =
    let few : is_over found ≡ false = ap is_over finds.0 ∙ whole_few c b q finds.1 in
    let fewer = results_few marked found few in
    absurd cc

-- the stretches that were put together are those of the results
pub stretches_are : (c : ConfigParts) (b : BundleParts) (q : AskedQuery) (marked : Bool) (found made : List Tuple) → marked ≡ is_marked q →
    found ≡ tuples c b q → made ≡ each_once (flat_map (shown marked) found) → made ≡ stretches c b q
stretches_are c b q marked found made mark is put =
    put ∙ (λ i. each_once (flat_map (shown (mark i)) (is i)))

pub shown_err : (c : ConfigParts) (b : BundleParts) (q asked : AskedQuery) (marked : Bool) (found : List Tuple) (fault : MatchFault) →
    q ≡ asked → marked ≡ is_marked q → found ≡ tuples c b q → has_too_many c b q ≡ false →
    GivesSet (Err fault) (each_once (flat_map (shown marked) found)) → Matches (Err fault) c b asked
shown_err c b q asked marked found TooManyTuples same mark is few over = never_over c b q marked found mark (is, few) over
shown_err c b q asked marked found Memory same mark is few told = tt

pub shown_at : (c : ConfigParts) (q asked : AskedQuery) (place : AttributePlace) → q ≡ asked → place ≡ shown_place q → IsQueryOf c asked →
    IsSome (attribute_at place c.levels)
shown_at c q asked place same is within =
    subst (λ (p : AttributePlace). IsSome (attribute_at p c.levels)) (sym (is ∙ ap shown_place same)) (shown_there c asked within)

pub result_level_there : (c : ConfigParts) (b : BundleParts) (q asked : AskedQuery) (place : AttributePlace) → FitsConfig c b → q ≡ asked →
    place ≡ shown_place q → IsQueryOf c asked → place.level < length b.levels
result_level_there c b q asked place fits same is within =
    let there : result_level asked < length c.levels = result_within c asked within in
    let count : length b.levels ≡ length c.levels = levels_same c b fits in
    let level : place.level ≡ result_level asked = ap (λ (p : AttributePlace). p.level) (is ∙ ap shown_place same) in
    omega arith

pub answer_there : (c : ConfigParts) (b : BundleParts) (q : AskedQuery) (spans : List Span) → IsQueryOf c q → AreOnOneLevel q →
    spans ≡ results c b q → AreThere c b (result_level q) spans
answer_there c b q spans within one is = subst (AreThere c b (result_level q)) (sym is) (results_there c b q within one)
