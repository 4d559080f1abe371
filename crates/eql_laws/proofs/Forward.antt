-- A row does not end before it starts.
use Rattle.std.proofs.Common.{◌≡◌, ℕ, zero, suc, ◌+◌, ◌-◌, ◌*◌, ◌/◌, ◌<◌, ◌≤◌, min, max, Bool, true, false, cond, ◌==◌, nat_le, nat_lt, List, [], ◌∷◌, ◌++◌, map, length, take, drop, take-append-drop, le_trans, Option, None, Some, option_map, refl, sym, ap, subst, ◌∙◌, arith}
use Rattle.std.specs.Prelude.{All, unwrap_or}
use Rattle.std.specs.List.{flat_map, slice_get}
use Rattle.std.proofs.Math.Nat.{div-mul-le_self, lt-div-mul-add, lt_of_mul-lt-mul_right, min-le_left, le-max_left}
use Rattle.std.proofs.lemmas.Bool.{and_parts, leb-true, ltb-true}
use Rattle.std.proofs.lemmas.List.Concat.{flat_map-cons}
use Rattle.std.proofs.lemmas.List.Elements.{All-nil, All-cons, All-head, All-tail, All-append, All-map}
use Rattle.emu_names.specs.declared.limits.TheConstants.{TOP_RATE}
use Rattle.emu_names.specs.declared.kinds.LevelKind.{LevelKind}
use Rattle.emu_names.specs.declared.kinds.LevelKind.TheVariants as kinds
use Rattle.sample_time.specs.Micros.{micros_of_start, micros_of_end, micros_of_point}
use Rattle.level_items.specs.declared.items.Item.{Item}
use Rattle.level_items.specs.Levels.{Level, KeepsLevelRule, items_at, are_apart, are_in_order, is_before_first}
use Rattle.level_items.specs.Times.{first_sample, last_sample}
use Rattle.level_items.proofs.Apart.{first-le-last, halves}
use Rattle.db_config.specs.declared.parts.LevelDef.{LevelDef}
use Rattle.db_config.specs.declared.parts.ConfigParts.{ConfigParts}
use Rattle.bundle_state.specs.Bundle.{BundleParts}
use Rattle.bundle_state.specs.Built.{FitsConfig, form_of, form_asked}
use Rattle.bundle_state.specs.Valid.{KeepsBundleRules}
use Rattle.eql_resolve.specs.Asked.{AskedParts}
use Rattle.eql_rows.specs.declared.span.Span.{Span}
use Rattle.eql_rows.specs.declared.row.Row.{Row}
use Rattle.eql_model.specs.Results.{results}
use Rattle.eql_rows.specs.Rows.{kind_of, items_of, end_to_end, least, greatest, extent, start_of, end_of}
use Rattle.eql_model.specs.Rows.{items_below, samples_of, row_of, rows, segment_list}
use Rattle.eql_laws.specs.Laws.{IsNotPast, GoesForward, IsBundleOf, RowsGoForward, SegmentListsGoForward}

-- ---- microseconds

quotient_rises : (a b k : ℕ) → 0 < k → a ≤ b → a / k ≤ b / k
quotient_rises a b k some rises =
    let under : a / k * k ≤ a = div-mul-le_self a k in
    let over : b < b / k * k + k = lt-div-mul-add some in
    let less : a / k * k < (b / k + 1) * k = omega arith in
    let behind : a / k < b / k + 1 = lt_of_mul-lt-mul_right k less in
    omega arith

none_under : (n : ℕ) → 0 ≤ n
none_under n = omega arith

start_by : (test : Bool) (start last rate : ℕ) → 0 < rate → start ≤ last →
    cond test 0 ((2 * start - 1) * 1000000 / (2 * rate)) ≤ (2 * last + 1) * 1000000 / (2 * rate)
start_by true start last rate some rises = none_under ((2 * last + 1) * 1000000 / (2 * rate))
start_by false start last rate some rises =
    quotient_rises ((2 * start - 1) * 1000000) ((2 * last + 1) * 1000000) (2 * rate) (omega arith) (omega arith)

segment_rises : (start last rate : ℕ) → 0 < rate → start ≤ last → micros_of_start start rate ≤ micros_of_end last rate
segment_rises start last rate some rises = start_by (start == 0) start last rate some rises

point_rises : (start last rate : ℕ) → 0 < rate → start ≤ last → micros_of_point start rate ≤ micros_of_point last rate
point_rises start last rate some rises = quotient_rises (start * 1000000) (last * 1000000) rate some (omega arith)

times_rise : (kind : LevelKind) (rate start last : ℕ) → 0 < rate → start ≤ last → start_of kind rate start ≤ end_of kind rate last
times_rise kinds.Item rate start last some rises = segment_rises start last rate some rises
times_rise kinds.Segment rate start last some rises = segment_rises start last rate some rises
times_rise kinds.Event rate start last some rises = point_rises start last rate some rises

-- ---- samples

-- the first sample is not past the last one, where there are samples
abbrev Rises : Option (ℕ × ℕ) → Type 0
Rises None = Unit {0}
Rises (Some samples) = samples.0 ≤ samples.1

least_under : (n : ℕ) (ms : List ℕ) → least n ms ≤ n
least_under n [] = omega arith
least_under n (m ∷ ms) =
    le_trans (least_under (min n m) ms) (min-le_left n m)

greatest_over : (n : ℕ) (ms : List ℕ) → n ≤ greatest n ms
greatest_over n [] = omega arith
greatest_over n (m ∷ ms) =
    le_trans (le-max_left n m) (greatest_over (max n m) ms)

extent_rises : (items : List Item) → Rises (extent items)
extent_rises [] = tt
extent_rises (s ∷ ss) =
    le_trans (least_under (first_sample s.time) (map (λ (i : Item). first_sample i.time) ss))
    (le_trans (first-le-last s.time) (greatest_over (last_sample s.time) (map (λ (i : Item). last_sample i.time) ss)))

-- samples that begin at this one
abbrev RisesFrom : ℕ → Option (ℕ × ℕ) → Type 0
RisesFrom first None = Unit {0}
RisesFrom first (Some samples) = (samples.0 ≡ first) × (samples.0 ≤ samples.1)

begins_before : (first next at last : ℕ) → first ≤ next → at ≡ next → at ≤ last → first ≤ last
begins_before first next at last before same rises = omega arith

one_before : (first next : ℕ) (samples : Option (ℕ × ℕ)) → first ≤ next → RisesFrom next samples →
    RisesFrom first (option_map (λ s. (first, s.1)) samples)
one_before first next None before rest = tt
one_before first next (Some samples) before rest = (refl, begins_before first next samples.0 samples.1 before rest.0 rest.1)

ends_from : (item : Item) (items : List Item) → are_apart (item ∷ items) ≡ true →
    RisesFrom (first_sample item.time) (end_to_end (item ∷ items))
ends_from item [] apart = (refl, first-le-last item.time)
ends_from item (next ∷ items) apart =
    let parts = and_parts (is_before_first item.time (next ∷ items)) (are_apart (next ∷ items)) apart in
    let own = first-le-last item.time in
    let before = ltb-true (last_sample item.time) (first_sample next.time) parts.0 in
    one_before (first_sample item.time) (first_sample next.time) (end_to_end (next ∷ items)) (omega arith)
    (ends_from next items parts.1)

rises_by : (first : ℕ) (samples : Option (ℕ × ℕ)) → RisesFrom first samples → Rises samples
rises_by first None from = tt
rises_by first (Some samples) from = from.1

ends_rise : (items : List Item) → are_apart items ≡ true → Rises (end_to_end items)
ends_rise [] apart = tt
ends_rise (item ∷ items) apart = rises_by (first_sample item.time) (end_to_end (item ∷ items)) (ends_from item items apart)

-- ---- items in order

first_of_both : {A : Type 0} (x y : A) (xs ys : List A) → x ∷ xs ≡ y ∷ ys → (x ≡ y) × (xs ≡ ys)
first_of_both x y xs ys same = (cc, cc)

in_order : (defs : List LevelDef) (levels : List Level) (n : ℕ) → map form_of levels ≡ map form_asked defs → All KeepsLevelRule levels →
    are_in_order (unwrap_or (option_map (λ d. d.kind) (slice_get defs n)) kinds.Item) (items_at levels n) ≡ true
in_order [] [] n forms all = refl
in_order [] (level ∷ levels) n forms all = absurd cc
in_order (def ∷ defs) [] n forms all = absurd cc
in_order (def ∷ defs) (level ∷ levels) zero forms all =
    let form = (first_of_both (form_of level) (form_asked def) (map form_of levels) (map form_asked defs) forms).0 in
    subst (λ (kind : LevelKind). are_in_order kind level.items ≡ true) (ap (λ (f : LevelKind × ℕ). f.0) form)
    (All-head KeepsLevelRule level levels all).ordered
in_order (def ∷ defs) (level ∷ levels) (suc n) forms all =
    in_order defs levels n (first_of_both (form_of level) (form_asked def) (map form_of levels) (map form_asked defs) forms).1
    (All-tail KeepsLevelRule level levels all)

drop_apart : (n : ℕ) (items : List Item) → are_apart items ≡ true → are_apart (drop n items) ≡ true
drop_apart zero items apart = apart
drop_apart (suc n) [] apart = refl
drop_apart (suc n) (item ∷ items) apart =
    drop_apart n items (and_parts (is_before_first item.time items) (are_apart items) apart).1

take_apart : (n : ℕ) (items : List Item) → are_apart items ≡ true → are_apart (take n items) ≡ true
take_apart n items apart =
    (halves (take n items) (drop n items) (ap are_apart (take-append-drop n items) ∙ apart)).0

samples_by : (kind : LevelKind) (b : BundleParts) (time : Option ℕ) (span : Span) →
    are_in_order kind (items_at b.levels span.level) ≡ true → Rises (samples_of b kind time span)
samples_by kinds.Item b time span order = extent_rises (items_below b time span)
samples_by kinds.Segment b time span order =
    ends_rise (items_of b span)
    (take_apart (span.last + 1 - span.first) (drop span.first (items_at b.levels span.level))
    (drop_apart span.first (items_at b.levels span.level) order))
samples_by kinds.Event b time span order =
    ends_rise (items_of b span)
    (take_apart (span.last + 1 - span.first) (drop span.first (items_at b.levels span.level))
    (drop_apart span.first (items_at b.levels span.level) order))

-- ---- rows

forward_by : (kind : LevelKind) (rate : ℕ) (samples : Option (ℕ × ℕ)) → 0 < rate → Rises samples →
    IsNotPast (option_map (λ s. start_of kind rate s.0) samples) (option_map (λ s. end_of kind rate s.1) samples)
    × IsNotPast (option_map (λ s. s.0) samples) (option_map (λ s. s.1) samples)
forward_by kind rate None some rises = (tt, tt)
forward_by kind rate (Some samples) some rises = (times_rise kind rate samples.0 samples.1 some rises, rises)

pub row_forward : RowsGoForward
row_forward c b time span (rules, fits) =
    let low : 1 ≤ b.rate = leb-true 1 b.rate (and_parts (nat_le 1 b.rate) (nat_le b.rate TOP_RATE) rules.rate).0 in
    let rate : 0 < b.rate = omega arith in
    forward_by (kind_of c span.level) b.rate (samples_of b (kind_of c span.level) time span) rate
    (samples_by (kind_of c span.level) b time span (in_order c.levels b.levels span.level fits.levels rules.levels))

all_spans : (c : ConfigParts) (b : BundleParts) (time : Option ℕ) → IsBundleOf c b → (spans : List Span) →
    All (λ span. GoesForward (row_of c b time span)) spans
all_spans c b time is [] = All-nil (λ span. GoesForward (row_of c b time span))
all_spans c b time is (span ∷ spans) =
    All-cons (λ s. GoesForward (row_of c b time s)) span spans (row_forward c b time span is) (all_spans c b time is spans)

pub lists_forward : SegmentListsGoForward
lists_forward c [] a all = All-nil GoesForward
lists_forward c (b ∷ bundles) a all =
    subst (All GoesForward) (sym (flat_map-cons (λ x. rows c x a) b bundles))
    (All-append GoesForward (rows c b a) (segment_list c bundles a)
    (All-map GoesForward (row_of c b a.time) (results c b a.query)
    (all_spans c b a.time (All-head (IsBundleOf c) b bundles all) (results c b a.query)))
    (lists_forward c bundles a (All-tail (IsBundleOf c) b bundles all)))
