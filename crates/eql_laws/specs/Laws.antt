-- What a user can check of the tuples, results and rows of queries that go together (EMU-SDMS Manual, "The EMU
-- Query Language (EQL)": simple queries, conjunction, sequence, domination, position and count functions, the
-- columns of a segment list), each law said by itself.
use Rattle.std.specs.Prelude.{◌≡◌, ◌≤◌, ◌<◌, ◌↔◌, not, ℕ, Bool, true, false, List, [], length, filter, All, Contains, Option, Some, None, if◌then◌else◌, ◌∷◌, ◌++◌, ◌&&◌, ◌||◌, ◌+◌}
use Rattle.level_items.specs.declared.items.Item.{Item}
use Rattle.level_items.specs.Levels.{first_of, last_of, items_at}
use Rattle.level_items.specs.Times.{first_sample, last_sample}
use Rattle.db_config.specs.declared.parts.AttributePlace.{AttributePlace}
use Rattle.db_config.specs.declared.parts.ConfigParts.{ConfigParts}
use Rattle.bundle_state.specs.Bundle.{BundleParts}
use Rattle.bundle_state.specs.Built.{FitsConfig}
use Rattle.bundle_state.specs.Valid.{KeepsBundleRules}
use Rattle.hier_closure.specs.Dominance.{ids_at, dominates}
use Rattle.eql_syntax.specs.declared.query.Compare.TheVariants.{Eq, Ne, Lt, Le, Gt, Ge}
use Rattle.eql_syntax.specs.declared.query.Place.{Place}
use Rattle.eql_syntax.specs.declared.query.Place.TheVariants.{Start, End, Medial}
use Rattle.eql_resolve.specs.Asked.{AskedTerm, number, AskedQuery, terms, sequence, dominance, AskedParts, is_marked, shown_place, AreOnOneLevel, test, position}
use Rattle.eql_rows.specs.declared.span.Span.{Span}
use Rattle.eql_rows.specs.declared.row.Row.{Row}
use Rattle.eql_model.specs.Positions.{below, makes_stand}
use Rattle.eql_model.specs.Meaning.{meets, tuples}
use Rattle.eql_model.specs.Results.{stretches, results}
use Rattle.eql_rows.specs.Rows.{end_to_end}
use Rattle.eql_model.specs.Rows.{row_of, segment_list, rows}
use Rattle.std.specs.List.{list_any}
use Rattle.eql_syntax.specs.declared.query.Op.{Op}
use Rattle.eql_syntax.specs.declared.query.Op.TheVariants.{Is, IsNot, Like, NotLike}
use Rattle.eql_syntax.specs.declared.query.Compare.{Compare}
use Rattle.eql_tuples.specs.Sets.{has}
use Rattle.eql_model.specs.Labels.{stands_for}
use Rattle.eql_tuples.specs.Shown.{bare}

-- ---- label tests

-- the operator that finds what another one does not: `!=` for `==`, `!~` for `=~`
abbrev pub opposite : Op → Op
opposite Is = IsNot
opposite IsNot = Is
opposite Like = NotLike
opposite NotLike = Like

-- an item meets exactly one of a label test and its opposite
abbrev pub TestsAreOpposite : Type 0
TestsAreOpposite =
    (c : ConfigParts) (b : BundleParts) (marked : Bool) (place : AttributePlace) (op : Op)
    (labels : List (List ℕ)) (item : Item) →
    meets c b (test marked place (opposite op) labels) item ≡ not (meets c b (test marked place op labels) item)

-- each item of a level is among the tuples of exactly one of a label test and its opposite
abbrev pub QueriesAreOpposite : Type 0
QueriesAreOpposite =
    (c : ConfigParts) (b : BundleParts) (place : AttributePlace) (op : Op) (labels : List (List ℕ)) (at : ℕ) →
    at < length (items_at b.levels place.level) →
    has (tuples c b (terms (test false place (opposite op) labels ∷ []))) (bare at at)
    ≡ not (has (tuples c b (terms (test false place op labels ∷ []))) (bare at at))

-- a group of labels finds what its values find that are written out, where no value names a group
abbrev pub GroupsAreTheirValues : Type 0
GroupsAreTheirValues =
    (c : ConfigParts) (b : BundleParts) (marked : Bool) (place : AttributePlace) (name : List ℕ)
    (values : List (List ℕ)) (item : Item) → stands_for c place name ≡ values →
    All (λ value. stands_for c place value ≡ value ∷ []) values →
    meets c b (test marked place Is (name ∷ [])) item ≡ meets c b (test marked place Is values) item

-- an item is found by some of two lists of labels exactly where it is found by both together: so neither
-- their order nor a label that stands twice changes what is found
abbrev pub LabelsAreAlternatives : Type 0
LabelsAreAlternatives =
    (c : ConfigParts) (b : BundleParts) (marked : Bool) (place : AttributePlace)
    (labels others : List (List ℕ)) (item : Item) →
    meets c b (test marked place Is (labels ++ others)) item
    ≡ (meets c b (test marked place Is labels) item || meets c b (test marked place Is others) item)

-- ---- conjunctions

-- two lists have the same conditions, in whatever order and however often
abbrev pub HaveSameTerms : List AskedTerm → List AskedTerm → Type 0
HaveSameTerms ts us = (t : AskedTerm) → Contains ts t ↔ Contains us t

-- Neither the order of the conditions of a conjunction nor one that stands twice changes a tuple, nor a
-- stretch that is shown. What changes is the attribute that is shown; where that is the same, so are the
-- results.
abbrev pub OrderIsFree : Type 0
OrderIsFree =
    (c : ConfigParts) (b : BundleParts) (ts us : List AskedTerm) →
    AreOnOneLevel (terms ts) → HaveSameTerms ts us →
    (tuples c b (terms ts) ≡ tuples c b (terms us))
    × (stretches c b (terms ts) ≡ stretches c b (terms us))
    × (shown_place (terms ts) ≡ shown_place (terms us) → results c b (terms ts) ≡ results c b (terms us))

-- ---- parts

-- each of these results is one of those
abbrev pub AreAmong : List Span → List Span → Type 0
AreAmong found others = All (Contains others) found

-- the results of a dominance without a mark are among those of its left part
abbrev pub DominanceSelects : Type 0
DominanceSelects =
    (c : ConfigParts) (b : BundleParts) (p q : AskedQuery) →
    is_marked (dominance p q) ≡ false → AreAmong (results c b (dominance p q)) (results c b p)

-- of two parts, the one that has the mark
abbrev pub marked_part : AskedQuery → AskedQuery → AskedQuery
marked_part p q = if is_marked p then p else q

-- the results of a sequence or a dominance of which one part has the mark are among those of that part
abbrev pub MarkedPartSelects : Type 0
MarkedPartSelects =
    (c : ConfigParts) (b : BundleParts) (p q : AskedQuery) →
    is_marked p ≡ not (is_marked q) →
    AreAmong (results c b (sequence p q)) (results c b (marked_part p q))
    × AreAmong (results c b (dominance p q)) (results c b (marked_part p q))

-- ---- dominance

-- a dominance has the same results as the one with its two parts in each other's place, where one of
-- the two parts has the mark: `[A == a ^ #B == b]` and `[#B == b ^ A == a]`
abbrev pub MirrorsAgree : Type 0
MirrorsAgree =
    (c : ConfigParts) (b : BundleParts) (p q : AskedQuery) →
    is_marked p ≡ not (is_marked q) → results c b (dominance p q) ≡ results c b (dominance q p)

-- ---- sequences

-- a sequence of three parts has the same tuples and the same results wherever its inner brackets stand
abbrev pub BracketsAreFree : Type 0
BracketsAreFree =
    (c : ConfigParts) (b : BundleParts) (p q r : AskedQuery) →
    (tuples c b (sequence (sequence p q) r) ≡ tuples c b (sequence p (sequence q r)))
    × (results c b (sequence (sequence p q) r) ≡ results c b (sequence p (sequence q r)))

-- ---- positions

-- the items of a level, by their ids, that dominate an item
abbrev pub above : BundleParts → ℕ → Item → List ℕ
above b upper item = filter (λ a. dominates b.links a item.id.0) (ids_at b.levels upper)

-- an item meets the test of its place below the items of an upper level with 1 (true) or with 0 (false)
abbrev pub is_placed : ConfigParts → BundleParts → ℕ → AttributePlace → Item → Place → Bool → Bool
is_placed c b upper lower item place wanted = meets c b (position false place upper lower wanted) item

-- under one item at most, an item that is the first or the last is not between the two: where it meets
-- `Start(..) == 1` it meets `Medial(..) == 0` and not `Medial(..) == 1`, and so where it meets `End(..) == 1`
abbrev pub EdgesAreNotMedial : Type 0
EdgesAreNotMedial =
    (c : ConfigParts) (b : BundleParts) (upper : ℕ) (lower : AttributePlace) (item : Item) →
    let placed = is_placed c b upper lower item in
    length (above b upper item) ≤ 1 →
    (placed Start true ≡ true → (placed Medial false ≡ true) × (placed Medial true ≡ false))
    × (placed End true ≡ true → (placed Medial false ≡ true) × (placed Medial true ≡ false))

-- under one item at most, an item meets `Medial(..) == 0` exactly where it is the first or the last
abbrev pub MedialIsNoEdge : Type 0
MedialIsNoEdge =
    (c : ConfigParts) (b : BundleParts) (upper : ℕ) (lower : AttributePlace) (item : Item) →
    let placed = is_placed c b upper lower item in
    length (above b upper item) ≤ 1 → placed Medial false ≡ (placed Start true || placed End true)

-- an item that some item of the upper level dominates meets one of the tests with 1 and with 0, and an
-- item that none dominates meets neither
abbrev pub PlacesAreToldBelow : Type 0
PlacesAreToldBelow =
    (c : ConfigParts) (b : BundleParts) (upper : ℕ) (lower : AttributePlace) (item : Item) (place : Place) →
    let placed = is_placed c b upper lower item place in
    (0 < length (above b upper item) → placed true ≡ not (placed false))
    × (length (above b upper item) ≡ 0 → (placed true ≡ false) × (placed false ≡ false))

-- how many items of a lower level an item dominates
abbrev pub count_below : BundleParts → ℕ → Item → ℕ
count_below b lower item = length (below b.links (ids_at b.levels lower) item.id.0)

-- the items of a lower level, by their ids, that an item dominates and makes stand at the place
abbrev pub standing : BundleParts → ℕ → Place → Item → List ℕ
standing b lower place item =
    filter (λ x. makes_stand b.links (ids_at b.levels lower) place x item.id.0) (ids_at b.levels lower)

-- an item with anything below it makes exactly one item stand first and exactly one stand last
abbrev pub OneStartOneEnd : Type 0
OneStartOneEnd =
    (b : BundleParts) (lower : ℕ) (item : Item) →
    KeepsBundleRules b → 0 < count_below b lower item →
    (length (standing b lower Start item) ≡ 1) × (length (standing b lower End item) ≡ 1)

-- an item with anything below it makes the same item stand first and last exactly where it meets
-- `Num(..) == 1`
abbrev pub OneIsBothEnds : Type 0
OneIsBothEnds =
    (c : ConfigParts) (b : BundleParts) (marked : Bool) (upper : AttributePlace) (lower : ℕ) (item : Item) →
    KeepsBundleRules b → 0 < count_below b lower item →
    (meets c b (number marked upper lower Eq 1) item ≡ true)
    ↔ (standing b lower Start item ≡ standing b lower End item)

-- ---- numbers

-- an item meets one of `Num(..) < n`, `== n` and `> n`, and no two of them; `!=`, `>=` and `<=` are the
-- opposites of `==`, `<` and `>`
abbrev pub NumbersCompare : Type 0
NumbersCompare =
    (c : ConfigParts) (b : BundleParts) (marked : Bool) (upper : AttributePlace) (lower n : ℕ) (item : Item) →
    let met : Compare → Bool = λ how. meets c b (number marked upper lower how n) item in
    (met Ne ≡ not (met Eq)) × (met Ge ≡ not (met Lt)) × (met Le ≡ not (met Gt))
    × (met Eq ≡ (met Le && met Ge)) × ((met Lt && met Gt) ≡ false)

-- an item meets `Num(..) == 0` exactly where it dominates no item of the lower level
abbrev pub ZeroIsNone : Type 0
ZeroIsNone =
    (c : ConfigParts) (b : BundleParts) (marked : Bool) (upper : AttributePlace) (lower : ℕ) (item : Item) →
    meets c b (number marked upper lower Eq 0) item
    ≡ not (list_any (dominates b.links item.id.0) (ids_at b.levels lower))

-- ---- rows

-- What items cover from end to end goes from the first sample of the first item to the last sample of the
-- last one, whatever stands between them; no items cover nothing.
abbrev pub EndToEndIsFirstToLast : Type 0
EndToEndIsFirstToLast =
    (end_to_end [] ≡ None)
    × ((items : List Item) (first last : Item) →
    first_of items ≡ Some first → last_of items ≡ Some last →
    end_to_end items ≡ Some (first_sample first.time, last_sample last.time))

-- both are there, and the first is not past the second; or neither is there
abbrev pub IsNotPast : Option ℕ → Option ℕ → Type 0
IsNotPast None None = Unit {0}
IsNotPast None (Some end) = ⊥
IsNotPast (Some start) None = ⊥
IsNotPast (Some start) (Some end) = start ≤ end

-- a row has a start and an end, and samples of both, none past its end; or it has none of the four
abbrev pub GoesForward : Row → Type 0
GoesForward row = IsNotPast row.start row.end × IsNotPast row.sample_start row.sample_end

-- the bundle keeps the rules, and has the levels and link definitions of the configuration
abbrev pub IsBundleOf : ConfigParts → BundleParts → Type 0
IsBundleOf c b = KeepsBundleRules b × FitsConfig c b

-- the row of a stretch of items does not end before it starts
abbrev pub RowsGoForward : Type 0
RowsGoForward =
    (c : ConfigParts) (b : BundleParts) (time : Option ℕ) (span : Span) →
    IsBundleOf c b → GoesForward (row_of c b time span)

-- nor does a row of a segment list
abbrev pub SegmentListsGoForward : Type 0
SegmentListsGoForward =
    (c : ConfigParts) (bundles : List BundleParts) (a : AskedParts) →
    All (IsBundleOf c) bundles → All GoesForward (segment_list c bundles a)

-- a bundle that is put in or taken out changes no row of the others, nor their order
abbrev pub BundlesKeepTheirRows : Type 0
BundlesKeepTheirRows =
    (c : ConfigParts) (before behind : List BundleParts) (b : BundleParts) (a : AskedParts) →
    (segment_list c (before ++ behind) a ≡ segment_list c before a ++ segment_list c behind a)
    × (segment_list c (before ++ b ∷ behind) a ≡ segment_list c before a ++ (rows c b a ++ segment_list c behind a))
