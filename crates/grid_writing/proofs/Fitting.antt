-- Levels that keep the level rule have times that can be written.
use Rattle.std.proofs.Common.{◌≡◌, ℕ, ◌+◌, ◌-◌, ◌^◌, ◌<◌, ◌≤◌, Bool, true, false, cond, ltb, ◌&&◌, IsTrue, List, [], ◌∷◌, ◌++◌, length, map, All, Ok, refl, sym, ap, ◌∙◌, subst, arith}
use Rattle.std.specs.List.{list_all}
use Rattle.std.specs.Str.{IsUtf8}
use Rattle.std.specs.Str.Lossy.{utf8_valid_len}
use Rattle.std.proofs.lemmas.Bool.Decides.{nat_tests}
use Rattle.std.proofs.lemmas.List.Elements.{All-nil, All-cons, All-head, All-tail}
use Rattle.std.proofs.lemmas.Str.{utf8_valid_len-IsUtf8}
use Rattle.emu_names.specs.declared.limits.TheConstants.{SAMPLES}
use Rattle.emu_names.specs.declared.kinds.LevelKind.{LevelKind}
use Rattle.emu_names.specs.declared.kinds.LevelKind.TheVariants as kinds
use Rattle.level_items.specs.declared.times.Time.{Time}
use Rattle.level_items.specs.declared.times.Time.TheVariants.{NoTime, Span, Point}
use Rattle.level_items.specs.declared.items.Item.{Item}
use Rattle.level_items.specs.Times.{first_sample, last_sample, fits_kind, ends_in_time, is_before}
use Rattle.level_items.specs.Levels.{Level, KeepsLevelRule, fits_level, is_before_first, are_apart, are_in_order, are_labels_for}
use Rattle.textgrid.specs.Encodings.{mark_of, utf8_of, text_of}
use Rattle.textgrid.specs.Grids.{grid_of_decoded, grid_of_text, grid_of}
use Rattle.grid_writing.specs.declared.entries.Entry.{Entry}
use Rattle.grid_writing.specs.declared.entries.Entry.TheVariants.{Held, Filler}
use Rattle.grid_writing.specs.declared.levels.TimeLevel.{TimeLevel}
use Rattle.grid_writing.specs.Filled.{entry_time, entry_of, gap, filled_from, filled}
use Rattle.grid_writing.specs.Back.{IsFilledList, IsFilledLevel}
use Rattle.grid_writing.specs.Inner.Within.{AreWithin, IsItemInTime, IsEntryInTime}
use Rattle.grid_writing.proofs.Fillers.{filled_is_filled}
use Rattle.grid_writing.specs.Levels.{reach, reach_of, entries_of, is_segments}
use Rattle.grid_writing.proofs.TokenLines.{IsTimeIn, AreTimesIn}
use Rattle.grid_writing.proofs.Leaves.{and_left, and_right}

-- the samples from which items may begin
abbrev Begins : ℕ → ℕ → List Item → Type 0
Begins end from [] = from ≤ end
Begins end from (item ∷ items) = from ≤ first_sample item.time

begins_next : (end : ℕ) (t : Time) (items : List Item) → last_sample t + 1 ≤ end → IsTrue (is_before_first t items) → Begins end (last_sample t + 1) items
begins_next end t [] low apart = low
begins_next end t (item ∷ items) low apart =
    let test : ltb (last_sample t) (first_sample item.time) ≡ true = apart in grind (arith, nat_tests)

within : (end from : ℕ) (items : List Item) → Begins end from items → IsTrue (are_apart items) → reach items ≤ end → AreWithin end from items
within end from [] begins apart low = begins
within end from (item ∷ items) begins apart low = (
  begins,
  within end (last_sample item.time + 1) items
      (begins_next end item.time items (omega arith) (and_left (is_before_first item.time items) (are_apart items) apart))
      (and_right (is_before_first item.time items) (are_apart items) apart) (omega arith),
)

starts_low : (end : ℕ) (items : List Item) → Begins end 0 items
starts_low end [] = omega arith
starts_low end (item ∷ items) = omega arith

pub level_within : (end attributes : ℕ) (items : List Item) → IsTrue (are_apart items) → reach items ≤ end → AreWithin end 0 items
level_within end attributes items apart low = within end 0 items (starts_low end items) apart low

-- an item's time
time_in : (kind : LevelKind) (end : ℕ) (t : Time) → IsTrue (fits_kind kind t) → last_sample t + 1 ≤ end → (kind ≡ kinds.Item → ⊥) → IsTimeIn (is_segments kind) end t
time_in kinds.Item end t fits low other = absurd (other refl)
time_in kinds.Segment end NoTime fits low other = absurd cc
time_in kinds.Segment end (Span start dur) fits low other = omega arith
time_in kinds.Segment end (Point at) fits low other = absurd cc
time_in kinds.Event end NoTime fits low other = absurd cc
time_in kinds.Event end (Span start dur) fits low other = absurd cc
time_in kinds.Event end (Point at) fits low other = omega arith

points_in : (end attributes : ℕ) (items : List Item) → IsTrue (list_all (fits_level kinds.Event attributes) items) → reach items ≤ end → AreTimesIn false end (map entry_of items)
points_in end attributes [] fits low = tt
points_in end attributes (item ∷ items) fits low =
    let first = and_left (fits_level kinds.Event attributes item) _ fits in
    let fits_time = and_left (fits_kind kinds.Event item.time) (ends_in_time item.time) (and_left (fits_kind kinds.Event item.time && ends_in_time item.time) (are_labels_for attributes item.labels) first) in
    (time_in kinds.Event end item.time fits_time (omega arith) (λ is. cc), points_in end attributes items (and_right (fits_level kinds.Event attributes item) _ fits) (omega arith))

gap_in : (b : Bool) (end from to : ℕ) (entries : List Entry) → ltb from to ≡ b → to ≤ end → AreTimesIn true end entries → AreTimesIn true end (cond b (Filler from (to - from - 1) ∷ []) [] ++ entries)
gap_in true end from to entries is low times = let less : from < to = grind (arith, nat_tests) in (omega arith, times)
gap_in false end from to entries is low times = times

gap_last : (b : Bool) (end from : ℕ) → ltb from end ≡ b → AreTimesIn true end (cond b (Filler from (end - from - 1) ∷ []) [])
gap_last true end from is = let less : from < end = grind (arith, nat_tests) in (omega arith, tt)
gap_last false end from is = tt

never_back : (t : Time) → first_sample t ≤ last_sample t
never_back NoTime = omega arith
never_back (Span start dur) = omega arith
never_back (Point at) = omega arith

spans_in : (end from attributes : ℕ) (items : List Item) → IsTrue (list_all (fits_level kinds.Segment attributes) items) → reach items ≤ end → AreTimesIn true end (filled_from end from items)
spans_in end from attributes [] fits low = gap_last (ltb from end) end from refl
spans_in end from attributes (item ∷ items) fits low =
    let first = and_left (fits_level kinds.Segment attributes item) _ fits in
    let fits_time = and_left (fits_kind kinds.Segment item.time) (ends_in_time item.time) (and_left (fits_kind kinds.Segment item.time && ends_in_time item.time) (are_labels_for attributes item.labels) first) in
    let back = never_back item.time in
    gap_in (ltb from (first_sample item.time)) end from (first_sample item.time) (entry_of item ∷ filled_from end (last_sample item.time + 1) items) refl (omega arith)
    (time_in kinds.Segment end item.time fits_time (omega arith) (λ is. cc), spans_in end (last_sample item.time + 1) attributes items (and_right (fits_level kinds.Segment attributes item) _ fits) (omega arith))

times_by : (kind : LevelKind) (end attributes : ℕ) (items : List Item) → IsTrue (list_all (fits_level kind attributes) items) → reach_of kind items ≤ end → AreTimesIn (is_segments kind) end (entries_of kind end items)
unfolding filled
times_by kinds.Item end attributes items fits low = tt
times_by kinds.Segment end attributes items fits low = spans_in end 0 attributes items fits low
times_by kinds.Event end attributes items fits low = points_in end attributes items fits low

pub level_can_be_written : (end : ℕ) (level : Level) → KeepsLevelRule level → reach_of level.kind level.items ≤ end → AreTimesIn (is_segments level.kind) end (entries_of level.kind end level.items)
level_can_be_written end level rule low = times_by level.kind end level.attributes level.items rule.fitting low

-- no sample is past the last one
pub items_in_time : (kind : LevelKind) (attributes : ℕ) (items : List Item) → IsTrue (list_all (fits_level kind attributes) items) → All IsItemInTime items
items_in_time kind attributes [] fits = All-nil IsItemInTime
items_in_time kind attributes (item ∷ items) fits =
    let first = and_left (fits_level kind attributes item) _ fits in
    let ends : ltb (last_sample item.time) SAMPLES ≡ true = and_right (fits_kind kind item.time) (ends_in_time item.time) (and_left (fits_kind kind item.time && ends_in_time item.time) (are_labels_for attributes item.labels) first) in
    let low : last_sample item.time < SAMPLES = grind (arith, nat_tests) in
    All-cons IsItemInTime item items low (items_in_time kind attributes items (and_right (fits_level kind attributes item) _ fits))

pub level_in_time : (level : Level) → KeepsLevelRule level → All IsItemInTime level.items
level_in_time level rule = items_in_time level.kind level.attributes level.items rule.fitting

reach_within : (items : List Item) → All IsItemInTime items → reach items ≤ SAMPLES
reach_within [] low = omega arith
reach_within (item ∷ items) low =
    let first = All-head IsItemInTime item items low in
    let rest = reach_within items (All-tail IsItemInTime item items low) in
    omega arith

reach_by : (kind : LevelKind) (items : List Item) → All IsItemInTime items → reach_of kind items ≤ SAMPLES
reach_by kinds.Item items low = omega arith
reach_by kinds.Segment items low = reach_within items low
reach_by kinds.Event items low = reach_within items low

pub end_is_in_time : (level : Level) → KeepsLevelRule level → reach_of level.kind level.items ≤ SAMPLES
end_is_in_time level rule = reach_by level.kind level.items (level_in_time level rule)

-- the samples of a level of segments
apart_of : (kind : LevelKind) (items : List Item) → kind ≡ kinds.Segment → IsTrue (are_in_order kind items) → IsTrue (are_apart items)
apart_of kinds.Segment items is order = order
apart_of kinds.Event items is order = order
apart_of kinds.Item items is order = absurd cc

pub segments_within : (end : ℕ) (level : Level) → KeepsLevelRule level → level.kind ≡ kinds.Segment → reach level.items ≤ end → AreWithin end 0 level.items
segments_within end level rule is low = level_within end level.attributes level.items (apart_of level.kind level.items is rule.ordered) low

-- entries with such times end in time
in_time : (b : Bool) (end : ℕ) (t : Time) → IsTimeIn b end t → last_sample t < end
in_time true end NoTime is = absurd is
in_time true end (Span start dur) is = is
in_time true end (Point at) is = absurd is
in_time false end NoTime is = absurd is
in_time false end (Span start dur) is = absurd is
in_time false end (Point at) is = is

pub entries_in_time : (b : Bool) (end : ℕ) (es : List Entry) → end ≤ SAMPLES → AreTimesIn b end es → All IsEntryInTime es
entries_in_time b end [] low times = All-nil IsEntryInTime
entries_in_time b end (e ∷ es) low times =
    let first = in_time b end (entry_time e) times.0 in
    All-cons IsEntryInTime e es (omega arith) (entries_in_time b end es low times.1)

filled_by : (kind : LevelKind) (end : ℕ) (level : Level) → level.kind ≡ kind → KeepsLevelRule level → reach_of kind level.items ≤ end → IsFilledList kind end level.items
filled_by kinds.Segment end level is rule low = filled_is_filled end level.items (segments_within end level rule is low)
filled_by kinds.Event end level is rule low = tt
filled_by kinds.Item end level is rule low = tt

pub level_is_filled : (end : ℕ) (level : Level) → KeepsLevelRule level → reach_of level.kind level.items ≤ end → IsFilledLevel end level
level_is_filled end level rule low = filled_by level.kind end level refl rule low
