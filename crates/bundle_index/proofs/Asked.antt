-- The columns of all levels, and rows that are asked of them.
use Rattle.std.proofs.Common.{◌≡◌, ◌≢◌, ◌<◌, ◌≤◌, ◌+◌, ◌==◌, ◌⊎◌, inl, inr, ℕ, zero, suc, Bool, true, false, cond, nat_lt, List, [], ◌∷◌, ◌++◌, length, map, replicate, get_or, slice_get, slice_set, Option, Some, None, Result, Ok, Err, IfOk, IfSome, Bor, refl, sym, ap, subst, ◌∙◌, arith, true≢false}
use Rattle.std.proofs.lemmas.Bool.{cases_eq, cases_lt}
use Rattle.std.proofs.lemmas.Bool.Decides.{nat_tests, Decides-eqb, same_from_decides}
use Rattle.std.proofs.lemmas.List.{length-append, length-map, length-replicate, get_or_at, get_or_append_left, get_or_past, get_or-set_same}
use Rattle.std.proofs.lemmas.List.Sums.{fails_before_first}
use Rattle.std.proofs.lemmas.Option.{slice_get_past, slice_get_within, slice_get-get_or, get_or_from_slice_get, same_Some}
use Rattle.std.proofs.lemmas.Slice.Eq.{bytes_eq-Decides}
use Rattle.std.specs.List.{position, position_or_len}
use Rattle.std.specs.Option.{option_map, option_map_or}
use Rattle.std.specs.Str.{bytes_eq}
use Rattle.lane_bits.specs.Inner.Row.{is_between}
use Rattle.emu_names.specs.declared.kinds.LevelKind.TheVariants as kinds
use Rattle.level_items.specs.declared.items.Item.{Item}
use Rattle.level_items.specs.Levels.{Level, level_of, ids_of, items_at, label_of}
use Rattle.db_config.specs.declared.parts.ConfigParts.{ConfigParts}
use Rattle.bundle_state.specs.Bundle.{BundleParts}
use Rattle.bundle_state.specs.Built.{FitsConfig}
use Rattle.hier_closure.specs.Dominance.{closure_of, ids_at}
use Rattle.hier_closure.specs.Inner.Linked.{AreLinkedIn, HaveSameIdsBut}
use Rattle.hier_closure.specs.declared.linked.LinkedLevels.{LinkedLevels}
use Rattle.hier_closure.proofs.Heights.{same_count}
use Rattle.bundle_index.specs.declared.columns.LevelColumns.{LevelColumns}
use Rattle.bundle_index.specs.Inner.Numbered.{AreNumbered, HasGrown, IsColumnOf}
use Rattle.bundle_index.specs.Index.{IndexParts}
use Rattle.bundle_index.specs.Inner.Index.{IsTimed, attributes_on, has_label, starts_within}
use Rattle.bundle_index.specs.Inner.Columns.{AreColumnsBut, AreColumnsOf, AreColumnsFor, AreOtherwiseSame, AreSameBut, starts_of, ends_of}
use Rattle.bundle_index.proofs.Steps.{column_stays, grown_twice}

-- ---- the columns of the levels, one level after another

-- there are columns for the first k levels
pub record AreFilled (numbered : List (List ℕ)) (levels : List Level) (k : ℕ) (all : List LevelColumns) : Type 0 where
  pub count : length all ≡ k
  pub each : (j : ℕ) (level : Level) (columns : LevelColumns) →
      slice_get levels j ≡ Some level → slice_get all j ≡ Some columns → AreColumnsOf numbered level columns

pub columns_stay : (now new : List (List ℕ)) (level : Level) (columns : LevelColumns) → HasGrown now new →
    AreColumnsOf now level columns → AreColumnsOf new level columns
columns_stay now new level columns grown are = record {
  labels = λ attribute below.
      column_stays now new (get_or columns.labels attribute []) (map (label_of attribute) level.items) grown
      (are.labels attribute below);
  starts = are.starts;
  ends = are.ends;
}

pub filled_more : (now new : List (List ℕ)) (levels : List Level) (k : ℕ) (all : List LevelColumns) (level : Level)
    (columns : LevelColumns) → AreFilled now levels k all → HasGrown now new → slice_get levels k ≡ Some level →
    AreColumnsOf new level columns → AreFilled new levels (k + 1) (all ++ columns ∷ [])
filled_more now new levels k all level columns so grown at are = record {
  count = omega (arith, length-append all (columns ∷ []), so.count);
  each = λ j lv cs at-level at-columns. by j lv cs at-level at-columns (cases_lt j k);
}
  where
    by : (j : ℕ) (lv : Level) (cs : LevelColumns) → slice_get levels j ≡ Some lv → slice_get (all ++ columns ∷ []) j ≡ Some cs →
        (j < k) ⊎ (k ≤ j) → AreColumnsOf new lv cs
    by j lv cs at-level at-columns (inl under) =
        let within : j < length all = omega (arith, so.count) in
        let same : get_or all j cs ≡ cs =
        sym (get_or_append_left all (columns ∷ []) cs j within)
        ∙ get_or_from_slice_get (all ++ columns ∷ []) j cs cs at-columns in
        columns_stay now new lv cs grown
        (so.each j lv cs at-level (slice_get-get_or all j cs within ∙ ap Some same))
    by j lv cs at-level at-columns (inr over) =
        let within : j < length (all ++ columns ∷ []) = slice_get_within (all ++ columns ∷ []) j cs at-columns in
        let here : k ≡ j = omega (arith, length-append all (columns ∷ []), so.count) in
        let same : columns ≡ cs =
        sym (get_or_at all columns [] cs k so.count)
        ∙ get_or_from_slice_get (all ++ columns ∷ []) k cs cs
        (subst (λ (i : ℕ). slice_get (all ++ columns ∷ []) i ≡ Some cs) (sym here) at-columns) in
        let level-same : level ≡ lv =
        same_Some level lv (sym at ∙ subst (λ (i : ℕ). slice_get levels i ≡ Some lv) (sym here) at-level) in
        subst (λ (l : Level). AreColumnsOf new l cs) level-same
        (subst (λ (c : LevelColumns). AreColumnsOf new level c) same are)

pub all_filled : (numbered : List (List ℕ)) (levels : List Level) (k : ℕ) (all : List LevelColumns) →
    AreFilled numbered levels k all → k ≡ length levels → AreColumnsFor numbered levels all
all_filled numbered levels k all so is = record { count = so.count ∙ is; each = so.each }

pub none_filled : (numbered : List (List ℕ)) (levels : List Level) → AreFilled numbered levels 0 []
none_filled numbered levels = record { count = refl; each = λ j lv cs at-level at-columns. absurd cc }

-- ---- the columns of a level

-- what is kept, said of what is seen
pub seen_columns : (x y : IndexParts) (all : List LevelColumns) → x ≡ y → AreColumnsFor x.labels x.bundle.levels all →
    AreColumnsFor y.labels y.bundle.levels all
seen_columns x y all shown are = subst (λ (i : IndexParts). AreColumnsFor i.labels i.bundle.levels all) shown are

pub column_is : (x : IndexParts) (all : List LevelColumns) (level attribute : ℕ) (columns : LevelColumns) (column : List ℕ) →
    AreColumnsFor x.labels x.bundle.levels all → attribute < attributes_on x.bundle level →
    slice_get all level ≡ Some columns → column ≡ get_or columns.labels attribute [] →
    IsColumnOf x.labels column (map (label_of attribute) (items_at x.bundle.levels level))
column_is x all level attribute columns column are below at is = by (slice_get x.bundle.levels level) refl below
  where
    by : (o : Option Level) → slice_get x.bundle.levels level ≡ o → attribute < option_map_or (λ (l : Level). l.attributes) o 0 →
        IsColumnOf x.labels column (map (label_of attribute) (option_map_or (λ (l : Level). l.items) o []))
    by None found small = absurd (omega arith)
    by (Some l) found small =
        subst (λ (c : List ℕ). IsColumnOf x.labels c (map (label_of attribute) l.items)) (sym is)
        ((are.each level l columns found at).labels attribute small)

is_there : {A : Type 0} (xs : List A) (i : ℕ) → i < length xs → slice_get xs i ≡ None → ⊥
is_there [] i within none = absurd (omega arith)
is_there (x ∷ xs) zero within none = absurd cc
is_there (x ∷ xs) (suc i) within none = is_there xs i (omega arith) none

pub times_are : (x : IndexParts) (all : List LevelColumns) (level : ℕ) (columns : LevelColumns) →
    AreColumnsFor x.labels x.bundle.levels all → level < length x.bundle.levels → IsTimed x.bundle level →
    slice_get all level ≡ Some columns →
    (columns.starts ≡ starts_of (items_at x.bundle.levels level)) × (columns.ends ≡ ends_of (items_at x.bundle.levels level))
times_are x all level columns are within timed at = by (slice_get x.bundle.levels level) refl timed
  where
    by : (o : Option Level) → slice_get x.bundle.levels level ≡ o →
        (option_map (λ (l : Level). l.kind) o ≡ Some kinds.Item → ⊥) →
        (columns.starts ≡ starts_of (option_map_or (λ (l : Level). l.items) o []))
        × (columns.ends ≡ ends_of (option_map_or (λ (l : Level). l.items) o []))
    by None found other = absurd (is_there x.bundle.levels level within found)
    by (Some l) found other =
        let mine = are.each level l columns found at in
        (mine.starts (λ same. other (ap Some same)), mine.ends (λ same. other (ap Some same)))

-- ---- rows

pub row_same : {T E : Type 0} (r : Result T E) (x y : T) → IfOk r (λ row. row ≡ x) → x ≡ y → IfOk r (λ row. row ≡ y)
row_same (Ok row) x y is same = is ∙ same
row_same (Err e) x y is same = tt

number_is : (numbered : List (List ℕ)) (label l : List ℕ) (number n : ℕ) → AreNumbered numbered →
    slice_get numbered number ≡ Some label → slice_get numbered n ≡ Some l → (n == number) ≡ bytes_eq label l
number_is numbered label l number n rule here at =
    same_from_decides {P = label ≡ l} (n == number) (bytes_eq label l) (
      (λ same. same_Some label l (sym here ∙ sym (ap (slice_get numbered) ((Decides-eqb n number).0 same)) ∙ at)),
      (λ same. (Decides-eqb n number).1 (rule.apart n number l at (here ∙ ap Some same))),
    )
    (bytes_eq-Decides label l)

pub bits_are : (numbered : List (List ℕ)) (label : List ℕ) (number attribute : ℕ) (column : List ℕ) (items : List Item) →
    AreNumbered numbered → slice_get numbered number ≡ Some label →
    IsColumnOf numbered column (map (label_of attribute) items) →
    map (λ x. x == number) column ≡ map (has_label attribute label) items
bits_are numbered label number attribute [] [] rule here is = refl
bits_are numbered label number attribute [] (i ∷ items) rule here is = absurd cc
bits_are numbered label number attribute (n ∷ column) [] rule here is = absurd cc
bits_are numbered label number attribute (n ∷ column) (i ∷ items) rule here is =
    let first : slice_get numbered n ≡ Some (label_of attribute i) = cc in
    let rest : IsColumnOf numbered column (map (label_of attribute) items) = cc in
    let bit : (n == number) ≡ has_label attribute label i =
    number_is numbered label (label_of attribute i) number n rule here first in
    let bits : map (λ x. x == number) column ≡ map (has_label attribute label) items =
    bits_are numbered label number attribute column items rule here rest in
    cc

none_cond : (b : Bool) (i : ℕ) → None ≡ cond b (Some i) None → b ≡ false
none_cond true i is = absurd cc
none_cond false i is = refl

nowhere : (numbered : List (List ℕ)) (label l : List ℕ) (n : ℕ) → None ≡ position (bytes_eq label) numbered →
    slice_get numbered n ≡ Some l → bytes_eq label l ≡ false
nowhere numbered label l n none at =
    let past = none_cond (nat_lt (position_or_len (bytes_eq label) numbered) (length numbered))
    (position_or_len (bytes_eq label) numbered) none in
    let within : n < length numbered = slice_get_within numbered n l at in
    let far : length numbered ≤ position_or_len (bytes_eq label) numbered =
    beyond (position_or_len (bytes_eq label) numbered) (length numbered) past in
    sym (ap (bytes_eq label) (get_or_from_slice_get numbered n l l at))
    ∙ fails_before_first (bytes_eq label) numbered n l (omega arith)
  where
    beyond : (a b : ℕ) → nat_lt a b ≡ false → b ≤ a
    beyond a b h = grind (arith, nat_tests)

pub no_bits : (numbered : List (List ℕ)) (label : List ℕ) (attribute : ℕ) (column : List ℕ) (items : List Item) →
    None ≡ position (bytes_eq label) numbered → IsColumnOf numbered column (map (label_of attribute) items) →
    replicate (length column) false ≡ map (has_label attribute label) items
no_bits numbered label attribute [] [] none is = refl
no_bits numbered label attribute [] (i ∷ items) none is = absurd cc
no_bits numbered label attribute (n ∷ column) [] none is = absurd cc
no_bits numbered label attribute (n ∷ column) (i ∷ items) none is =
    let first : slice_get numbered n ≡ Some (label_of attribute i) = cc in
    let rest : IsColumnOf numbered column (map (label_of attribute) items) = cc in
    let bit : has_label attribute label i ≡ false = nowhere numbered label (label_of attribute i) n none first in
    let bits : replicate (length column) false ≡ map (has_label attribute label) items =
    no_bits numbered label attribute column items none rest in
    cc

-- there is one number for each item
pub column_length : (numbered : List (List ℕ)) (attribute : ℕ) (column : List ℕ) (items : List Item) →
    IsColumnOf numbered column (map (label_of attribute) items) → length column ≡ length items
column_length numbered attribute column items is =
    sym (length-map column (slice_get numbered)) ∙ ap length is
    ∙ length-map (map (label_of attribute) items) (λ (l : List ℕ). Some l) ∙ length-map items (label_of attribute)

-- a row that is made for a column has a bit for each item
pub unset_for : (numbered : List (List ℕ)) (attribute : ℕ) (column : List ℕ) (items : List Item) (row : List Bool) →
    IsColumnOf numbered column (map (label_of attribute) items) → row ≡ replicate (length column) false →
    row ≡ replicate (length items) false
unset_for numbered attribute column items row is unset =
    unset ∙ ap (λ (k : ℕ). replicate k false) (column_length numbered attribute column items is)

pub as_long : (numbered : List (List ℕ)) (attribute : ℕ) (column : List ℕ) (items : List Item) (row : List Bool) →
    IsColumnOf numbered column (map (label_of attribute) items) → row ≡ replicate (length items) false → length column ≡ length row
as_long numbered attribute column items row is unset =
    column_length numbered attribute column items is ∙ sym (length-replicate (length items) false) ∙ ap length (sym unset)

-- no item of a level has a label that is not in the list
pub none_labelled : (x : IndexParts) (all : List LevelColumns) (level attribute : ℕ) (label : List ℕ) →
    AreColumnsFor x.labels x.bundle.levels all → level < length x.bundle.levels → attribute < attributes_on x.bundle level →
    None ≡ position (bytes_eq label) x.labels →
    replicate (length (items_at x.bundle.levels level)) false ≡ map (has_label attribute label) (items_at x.bundle.levels level)
none_labelled x all level attribute label are within below none = by (slice_get all level) refl
  where
    by : (o : Option LevelColumns) → slice_get all level ≡ o →
        replicate (length (items_at x.bundle.levels level)) false ≡ map (has_label attribute label) (items_at x.bundle.levels level)
    by None missing = absurd (is_there all level (omega (arith, are.count)) missing)
    by (Some columns) at =
        let is : IsColumnOf x.labels (get_or columns.labels attribute []) (map (label_of attribute) (items_at x.bundle.levels level)) =
        column_is x all level attribute columns (get_or columns.labels attribute []) are below at refl in
        ap (λ (k : ℕ). replicate k false)
        (sym (column_length x.labels attribute (get_or columns.labels attribute []) (items_at x.bundle.levels level) is))
        ∙ no_bits x.labels label attribute (get_or columns.labels attribute []) (items_at x.bundle.levels level) none is

pub range_is : (low high : ℕ) (items : List Item) →
    map (is_between low high) (starts_of items) ≡ map (starts_within low high) items
range_is low high [] = refl
range_is low high (i ∷ items) = ap (λ (bits : List Bool). starts_within low high i ∷ bits) (range_is low high items)

-- ---- some levels changed

-- the columns of the first k levels, and the labels that they were begun with
pub record AreChangedSoFar (first now : List (List ℕ)) (levels : List Level) (k : ℕ) (all : List LevelColumns) : Type 0 where
  pub grown : HasGrown first now
  pub filled : AreFilled now levels k all

pub none_changed : (first : List (List ℕ)) (levels : List Level) → AreChangedSoFar first first levels 0 []
none_changed first levels = record { grown = record { kept = λ i l at. at }; filled = none_filled first levels }

pub changed_more : (first now new : List (List ℕ)) (levels : List Level) (k : ℕ) (all : List LevelColumns) (level : Level)
    (columns : LevelColumns) → AreChangedSoFar first now levels k all → HasGrown now new → slice_get levels k ≡ Some level →
    AreColumnsOf new level columns → AreChangedSoFar first new levels (k + 1) (all ++ columns ∷ [])
changed_more first now new levels k all level columns so grown at are = record {
  grown = grown_twice first now new so.grown grown;
  filled = filled_more now new levels k all level columns so.filled grown at are;
}

-- what is kept of a level that is not marked: its columns, which have a place there
pub still_there : (numbered : List (List ℕ)) (levels : List Level) (marked : List Bool) (old : List LevelColumns) (k : ℕ) → AreColumnsBut numbered levels marked old →
    k < length levels → get_or marked k false ≡ false → k < length old
still_there numbered levels marked old k are within unmarked =
    let level : Level = get_or levels k (level_of kinds.Item 0 []) in
    are.there k level unmarked (slice_get-get_or levels k (level_of kinds.Item 0 []) within)

pub still : (now : List (List ℕ)) (levels : List Level) (marked : List Bool) (k : ℕ) (old : List LevelColumns) (columns made : LevelColumns) →
    AreColumnsBut now levels marked old → get_or marked k false ≡ false → slice_get old k ≡ Some columns → made ≡ columns →
    (own : Level) → slice_get levels k ≡ Some own → AreColumnsOf now own made
still now levels marked k old columns made are unmarked at-columns same own at-level =
    subst (AreColumnsOf now own) (sym same) (are.each k own columns unmarked at-level at-columns)

-- the columns of the levels that are not marked stay so where the labels grow
pub but_stay : (now new : List (List ℕ)) (levels : List Level) (marked : List Bool) (old : List LevelColumns) → HasGrown now new →
    AreColumnsBut now levels marked old → AreColumnsBut new levels marked old
but_stay now new levels marked old grown are = record {
  there = are.there;
  each = λ k level columns unmarked at-level at-columns. columns_stay now new level columns grown (are.each k level columns unmarked at-level at-columns);
}

-- a list of labels goes on from itself
pub grown_self : (now : List (List ℕ)) → HasGrown now now
grown_self now = record { kept = λ i l at. at }

-- the columns of the levels that are not marked, where these are as they were
pub others_same : (x y : IndexParts) (all : List LevelColumns) (levels : List Level) (marked : List Bool) (labels : List (List ℕ)) →
    x ≡ y → AreColumnsFor x.labels x.bundle.levels all → AreSameBut marked y.bundle.levels levels →
    labels ≡ x.labels → AreColumnsBut labels levels marked all
others_same x y all levels marked labels shown are others is = record {
  there = λ k level unmarked at-level.
      let old : slice_get y.bundle.levels k ≡ Some level = sym (others k unmarked) ∙ at-level in
      let within : k < length y.bundle.levels = slice_get_within y.bundle.levels k level old in
      let same : length x.bundle.levels ≡ length y.bundle.levels = ap (λ (i : IndexParts). length i.bundle.levels) shown in
      omega (arith, are.count, same, within);
  each = λ k level columns unmarked at-level at-columns.
      subst (λ (ls : List (List ℕ)). AreColumnsOf ls level columns) (sym is)
      (are.each k level columns
      (subst (λ (i : IndexParts). slice_get i.bundle.levels k ≡ Some level) (sym shown)
      (sym (others k unmarked) ∙ at-level)) at-columns);
}

-- the ids of the levels that are not marked
pub ids_stay : (x y : IndexParts) (levels : List Level) (marked : List Bool) → x ≡ y → AreSameBut marked y.bundle.levels levels →
    HaveSameIdsBut marked x.bundle.levels levels
ids_stay x y levels marked shown others k unmarked =
    ap (λ (o : Option Level). option_map_or (λ (l : Level). ids_of l.items) o []) (others k unmarked)
    ∙ ap (λ (i : IndexParts). ids_at i.bundle.levels k) (sym shown)

-- where one level may have changed, and it is marked if it is there, all others are as they were
pub same_but_one : (old new : List Level) (changed : ℕ) (marked : List Bool) → AreOtherwiseSame old new changed →
    (changed < length new → get_or marked changed false ≡ true) → AreSameBut marked old new
same_but_one old new changed marked others here k unmarked = by (cases_eq k changed)
  where
    by_place : k ≡ changed → (k < length new) ⊎ (length new ≤ k) → slice_get new k ≡ slice_get old k
    by_place same (inl within) =
        let marks : get_or marked k false ≡ true =
        ap (λ (j : ℕ). get_or marked j false) same ∙ here (subst (λ (j : ℕ). j < length new) same within) in
        absurd (true≢false (sym marks ∙ unmarked))
    by_place same (inr beyond) =
        let count = others.count in
        slice_get_past new k beyond ∙ sym (slice_get_past old k (omega (arith, count, beyond)))

    by : (k ≡ changed) ⊎ (k ≢ changed) → slice_get new k ≡ slice_get old k
    by (inl same) = by_place same (cases_lt k (length new))
    by (inr other) = others.same k other

-- what a row tells of a level
pub mark_told : (marked : List Bool) (level : ℕ) (bit : Bool) → slice_get marked level ≡ Some bit → bit ≡ get_or marked level false
mark_told marked level bit at = sym (get_or_from_slice_get marked level bit false at)

pub mark_past : (marked : List Bool) (level : ℕ) → length marked ≤ level → false ≡ get_or marked level false
mark_past marked level past = sym (get_or_past marked level false past)

-- a mark that is set is there
pub mark_set : (row next : List Bool) (level count : ℕ) → row ≡ replicate count false → next ≡ slice_set row level true → level < count → get_or next level false ≡ true
mark_set row next level count unset is within =
    ap (λ (r : List Bool). get_or r level false) is
    ∙ get_or-set_same row level true false (omega (arith, ap length unset, length-replicate count false, within))

-- ---- rows of dominance that are kept

pub within_config : (config : ConfigParts) (bundle : BundleParts) (level : ℕ) → FitsConfig config bundle →
    level < length bundle.levels → level < length config.levels
within_config config bundle level fits within = omega (arith, same_count config bundle fits)

pub ids_long : (levels : List Level) (n : ℕ) → length (ids_at levels n) ≡ length (items_at levels n)
ids_long levels n = by (slice_get levels n)
  where
    by : (o : Option Level) →
        length (option_map_or (λ (l : Level). ids_of l.items) o []) ≡ length (option_map_or (λ (l : Level). l.items) o [])
    by None = refl
    by (Some l) = length-map l.items (λ (i : Item). i.id.0)

pub kept_rows : (config : ConfigParts) (x y : IndexParts) (all rows : List LinkedLevels) (upper lower : ℕ)
    (r : Option (Bor (List (List Bool)))) → x ≡ y → FitsConfig config y.bundle → rows ≡ all → AreLinkedIn x.bundle all →
    IfSome r (λ made. (bundle : BundleParts) → FitsConfig config bundle → AreLinkedIn bundle rows → made.now ≡ closure_of bundle lower upper) →
    IfSome r (λ made. made.now ≡ closure_of y.bundle lower upper)
kept_rows config x y all rows upper lower None shown fits same linked is = tt
kept_rows config x y all rows upper lower (Some made) shown fits same linked is =
    is y.bundle fits
    (subst (AreLinkedIn y.bundle) (sym same) (subst (λ (i : IndexParts). AreLinkedIn i.bundle all) shown linked))
