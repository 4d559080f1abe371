-- Both levels gone through side by side: what becomes of the pairs that are left, at each step.
use Rattle.std.proofs.Common.{◌≡◌, ◌≢◌, ℕ, ◌+◌, ◌<◌, ◌≤◌, true, false, ◌&&◌, cond, List, [], ◌∷◌, ◌++◌, length, map, take, drop, get_or, Some, refl, sym, ap, ◌∙◌, append_assoc, append-nil, arith}
use Rattle.std.specs.List.{filter, slice_get, list_all, All, AllByRecursion}
use Rattle.std.proofs.lemmas.Bool.{and_parts, ltb-true}
use Rattle.std.proofs.lemmas.Bool.Decides.{nat_tests}
use Rattle.std.proofs.lemmas.List.{drop_all, drop_more, take-append-drop}
use Rattle.std.proofs.lemmas.List.Elements.{All-nil, All-cons}
use Rattle.std.proofs.lemmas.Option.{get_or_from_slice_get, slice_get_within}
use Rattle.emu_names.specs.declared.kinds.LevelKind.{LevelKind}
use Rattle.emu_names.specs.declared.kinds.LevelKind.TheVariants as kinds
use Rattle.level_items.specs.declared.annot.AnnotLink.{AnnotLink}
use Rattle.level_items.specs.declared.items.Item.{Item}
use Rattle.level_items.specs.declared.times.Time.{Time}
use Rattle.level_items.specs.Times.{first_sample, last_sample, fits_kind, ends_in_time, is_before}
use Rattle.level_items.specs.Levels.{Level, KeepsLevelRule, are_apart, are_in_order, are_labels_for, fits_level}
use Rattle.level_items.proofs.Apart.{first-le-last, halves}
use Rattle.link_builder.specs.Timed.{is_within, pair_with, pairs_with, timed_pairs}
use Rattle.link_builder.proofs.Single.{all_later}

-- ---- what stands within what

starts_early : (outer inner : Time) → first_sample inner < first_sample outer → is_within outer inner ≡ false
starts_early outer inner low = grind (arith, nat_tests)

ends_late : (outer inner : Time) → last_sample outer < last_sample inner → is_within outer inner ≡ false
ends_late outer inner high = grind (arith, nat_tests)

stands_within : (outer inner : Time) → first_sample outer ≤ first_sample inner → last_sample inner ≤ last_sample outer → is_within outer inner ≡ true
stands_within outer inner low high = grind (arith, nat_tests)

-- ---- an item before all segments, and items behind a segment

-- each of these begins behind this time's first sample
abbrev begin_behind : Time → List Item → Type 0
begin_behind t items = AllByRecursion (λ y. first_sample t < first_sample y.time) items

-- an item that begins before each of the segments is in none of their pairs
without : (i : Item) (upper lower : List Item) → begin_behind i.time upper → timed_pairs upper (i ∷ lower) ≡ timed_pairs upper lower
without i [] lower early = refl
without i (y ∷ upper) lower early =
    let rest = filter (λ j. is_within y.time j.time) lower in
    ap (λ t. map (pair_with y.id) (cond t (i ∷ rest) rest) ++ timed_pairs upper (i ∷ lower)) (starts_early y.time i.time early.0)
    ∙ ap (λ ps. pairs_with lower y ++ ps) (without i upper lower early.1)

-- each of these is over behind this time's last sample
abbrev end_behind : Time → List Item → Type 0
end_behind t items = AllByRecursion (λ j. last_sample t < last_sample j.time) items

no_pairs : (y : Item) (lower : List Item) → end_behind y.time lower → pairs_with lower y ≡ []
no_pairs y [] late = refl
no_pairs y (j ∷ lower) late =
    let rest = filter (λ j. is_within y.time j.time) lower in
    ap (λ t. map (pair_with y.id) (cond t (j ∷ rest) rest)) (ends_late y.time j.time late.0) ∙ no_pairs y lower late.1

no_items : (upper : List Item) → timed_pairs upper [] ≡ []
no_items [] = refl
no_items (y ∷ upper) = no_items upper

-- what begins no later than a segment is over begins before all later segments
before_later : (t s : Time) (upper : List Item) → first_sample t ≤ last_sample s → AllByRecursion (λ y. is_before s y.time ≡ true) upper → begin_behind t upper
before_later t s [] low later = tt
before_later t s (y ∷ upper) low later =
    let next = ltb-true (last_sample s) (first_sample y.time) later.0 in
    (omega (arith, next, low), before_later t s upper low later.1)

-- what stands behind an item that is over too late is over too late
behind_late : (s t : Time) (lower : List Item) → last_sample s < last_sample t → AllByRecursion (λ j. is_before t j.time ≡ true) lower → end_behind s lower
behind_late s t [] high later = tt
behind_late s t (j ∷ lower) high later =
    let next = ltb-true (last_sample t) (first_sample j.time) later.0 in
    let end = first-le-last j.time in
    (omega (arith, next, high, end), behind_late s t lower high later.1)

-- ---- the three steps

-- the item begins before the segment
pub pass_item : (s i : Item) (upper lower : List Item) → are_apart (s ∷ upper) ≡ true → first_sample i.time < first_sample s.time →
    timed_pairs (s ∷ upper) (i ∷ lower) ≡ timed_pairs (s ∷ upper) lower
pass_item s i upper lower apart low =
    let end = first-le-last s.time in
    without i (s ∷ upper) lower (low, before_later i.time s.time upper (omega (arith, low, end)) (all_later s upper apart))

-- the item is over behind the segment
pub pass_segment : (s i : Item) (upper lower : List Item) → are_apart (i ∷ lower) ≡ true → last_sample s.time < last_sample i.time →
    timed_pairs (s ∷ upper) (i ∷ lower) ≡ timed_pairs upper (i ∷ lower)
pass_segment s i upper lower apart high =
    ap (λ ps. ps ++ timed_pairs upper (i ∷ lower)) (no_pairs s (i ∷ lower) (high, behind_late s.time i.time lower high (all_later i lower apart)))

-- the item stands within the segment
pub take_pair : (s i : Item) (upper lower : List Item) → are_apart (s ∷ upper) ≡ true → first_sample s.time ≤ first_sample i.time → last_sample i.time ≤ last_sample s.time →
    timed_pairs (s ∷ upper) (i ∷ lower) ≡ pair_with s.id i ∷ timed_pairs (s ∷ upper) lower
take_pair s i upper lower apart low high =
    let begin = first-le-last i.time in
    let rest = filter (λ j. is_within s.time j.time) lower in
    ap (λ t. map (pair_with s.id) (cond t (i ∷ rest) rest) ++ timed_pairs upper (i ∷ lower)) (stands_within s.time i.time low high)
    ∙ ap (λ ps. pair_with s.id i ∷ pairs_with lower s ++ ps) (without i upper lower (before_later i.time s.time upper (omega (arith, begin, high)) (all_later s upper apart)))

-- ---- the loop

next_item : (items : List Item) (n : ℕ) (i : Item) → slice_get items n ≡ Some i → drop n items ≡ i ∷ drop (n + 1) items
next_item items n i there =
    drop_more items n i (slice_get_within items n i there) ∙ ap (λ j. j ∷ drop (n + 1) items) (get_or_from_slice_get items n i i there)

-- levels of segments and of events stand in the order of their times
timed_apart : (kind : LevelKind) (items : List Item) → kind ≢ kinds.Item → are_in_order kind items ≡ true → are_apart items ≡ true
timed_apart kinds.Segment items timed h = h
timed_apart kinds.Event items timed h = h
timed_apart kinds.Item items timed h = absurd (timed refl)

left_apart : (items : List Item) (n : ℕ) (i : Item) → are_apart items ≡ true → slice_get items n ≡ Some i → are_apart (i ∷ drop (n + 1) items) ≡ true
left_apart items n i apart there =
    let behind = (halves (take n items) (drop n items) (ap are_apart (take-append-drop n items) ∙ apart)).1 in
    ap are_apart (sym (next_item items n i there)) ∙ behind

module _ (upper lower : Level) (kind : upper.kind ≡ kinds.Segment) (other : lower.kind ≢ kinds.Item) (rule : KeepsLevelRule upper) (low_rule : KeepsLevelRule lower)
    (place at : ℕ) (s i : Item) (segment : slice_get upper.items place ≡ Some s) (item : slice_get lower.items at ≡ Some i) (all before : List AnnotLink)
    (so_far : before ++ timed_pairs (drop place upper.items) (drop at lower.items) ≡ all) where
  is_timed : upper.kind ≢ kinds.Item
  is_timed is = let two : kinds.Segment ≡ kinds.Item = sym kind ∙ is in absurd cc

  segments_left : are_apart (s ∷ drop (place + 1) upper.items) ≡ true
  segments_left = left_apart upper.items place s (timed_apart upper.kind upper.items is_timed rule.ordered) segment

  items_left : are_apart (i ∷ drop (at + 1) lower.items) ≡ true
  items_left = left_apart lower.items at i (timed_apart lower.kind lower.items other low_rule.ordered) item

  opened : before ++ timed_pairs (s ∷ drop (place + 1) upper.items) (i ∷ drop (at + 1) lower.items) ≡ all
  opened =
      ap (λ ss. before ++ timed_pairs ss (i ∷ drop (at + 1) lower.items)) (sym (next_item upper.items place s segment))
      ∙ ap (λ is. before ++ timed_pairs (drop place upper.items) is) (sym (next_item lower.items at i item)) ∙ so_far

  pub item_passed : first_sample i.time < first_sample s.time → before ++ timed_pairs (drop place upper.items) (drop (at + 1) lower.items) ≡ all
  item_passed low =
      ap (λ ss. before ++ timed_pairs ss (drop (at + 1) lower.items)) (next_item upper.items place s segment)
      ∙ ap (λ ps. before ++ ps) (sym (pass_item s i (drop (place + 1) upper.items) (drop (at + 1) lower.items) segments_left low)) ∙ opened

  pub segment_passed : last_sample s.time < last_sample i.time → before ++ timed_pairs (drop (place + 1) upper.items) (drop at lower.items) ≡ all
  segment_passed high =
      ap (λ is. before ++ timed_pairs (drop (place + 1) upper.items) is) (next_item lower.items at i item)
      ∙ ap (λ ps. before ++ ps) (sym (pass_segment s i (drop (place + 1) upper.items) (drop (at + 1) lower.items) items_left high)) ∙ opened

  pub pair_taken : (now : List AnnotLink) → first_sample s.time ≤ first_sample i.time → last_sample i.time ≤ last_sample s.time → now ≡ before ++ pair_with s.id i ∷ [] →
      now ++ timed_pairs (drop place upper.items) (drop (at + 1) lower.items) ≡ all
  pair_taken now low high pushed =
      ap (λ ps. ps ++ timed_pairs (drop place upper.items) (drop (at + 1) lower.items)) pushed
      ∙ append_assoc before (pair_with s.id i ∷ []) (timed_pairs (drop place upper.items) (drop (at + 1) lower.items))
      ∙ ap (λ ss. before ++ pair_with s.id i ∷ timed_pairs ss (drop (at + 1) lower.items)) (next_item upper.items place s segment)
      ∙ ap (λ ps. before ++ ps) (sym (take_pair s i (drop (place + 1) upper.items) (drop (at + 1) lower.items) segments_left low high)) ∙ opened

-- no segment is left, or no item
pub no_segment_left : (upper lower : List Item) (place at : ℕ) (all now : List AnnotLink) → length upper ≤ place → now ++ timed_pairs (drop place upper) (drop at lower) ≡ all → now ≡ all
no_segment_left upper lower place at all now over so_far =
    sym (append-nil now) ∙ ap (λ ss. now ++ timed_pairs ss (drop at lower)) (sym (drop_all place upper over)) ∙ so_far

pub no_item_left : (upper lower : List Item) (place at : ℕ) (all now : List AnnotLink) → length lower ≤ at → now ++ timed_pairs (drop place upper) (drop at lower) ≡ all → now ≡ all
no_item_left upper lower place at all now over so_far =
    sym (append-nil now) ∙ ap (λ ps. now ++ ps) (sym (no_items (drop place upper))) ∙ ap (λ is. now ++ timed_pairs (drop place upper) is) (sym (drop_all at lower over)) ∙ so_far

-- ---- times end in time

pub each_in_time : (kind : LevelKind) (attributes : ℕ) (items : List Item) → list_all (fits_level kind attributes) items ≡ true → All (λ i. ends_in_time i.time ≡ true) items
each_in_time kind attributes [] fits = All-nil (λ (i : Item). ends_in_time i.time ≡ true)
each_in_time kind attributes (i ∷ items) fits =
    let parts = and_parts (fits_level kind attributes i) (list_all (fits_level kind attributes) items) fits in
    All-cons (λ (j : Item). ends_in_time j.time ≡ true) i items (in_time kind attributes i parts.0) (each_in_time kind attributes items parts.1)
  where
    in_time : (k : LevelKind) (n : ℕ) (j : Item) → fits_level k n j ≡ true → ends_in_time j.time ≡ true
    in_time k n j h =
        let timed = and_parts (fits_kind k j.time && ends_in_time j.time) (are_labels_for n j.labels) h in
        (and_parts (fits_kind k j.time) (ends_in_time j.time) timed.0).1

pub one_in_time : (level : Level) (place : ℕ) (item : Item) → KeepsLevelRule level → slice_get level.items place ≡ Some item → ends_in_time item.time ≡ true
one_in_time level place item rule there =
    let within = slice_get_within level.items place item there in
    let here : get_or level.items place item ≡ item = get_or_from_slice_get level.items place item item there in
    ap (λ (i : Item). ends_in_time i.time) (sym here) ∙ each_in_time level.kind level.attributes level.items rule.fitting place item within
