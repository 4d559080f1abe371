-- What an edit makes of a bundle: it keeps its key, the rules and the form, and has at most so many items more.
use Rattle.std.proofs.Common.{◌≡◌, ℕ, zero, suc, ◌+◌, ◌-◌, ◌<◌, ◌≤◌, Bool, true, false, cond, ◌==◌, List, [], ◌∷◌, ◌++◌, length, map, take, drop, remove, insert, Option, Some, None, Ok, nat_eq, nat_lt, nat_le, IsTrue, IfSome, refl, sym, ◌∙◌, ap, subst, arith, length-append, eq-eqb, ok_or, option_map}
use Rattle.std.specs.Prelude.{replicate}
use Rattle.std.specs.List.{list_any, list_all, find, slice_get}
use Rattle.std.proofs.lemmas.Bool.{and_from, leb-true, leb-false, ltb-false, le-leb}
use Rattle.std.proofs.lemmas.List.{length-map, take-append-drop}
use Rattle.std.proofs.lemmas.List.Sums.{sum_by-cons}
use Rattle.emu_names.specs.declared.limits.TheConstants.{ALL_ITEMS, BUNDLE_ITEMS, LABEL_BYTES}
use Rattle.emu_names.specs.declared.kinds.LevelKind.{LevelKind}
use Rattle.emu_names.specs.declared.kinds.ItemId.{ItemId}
use Rattle.emu_names.specs.declared.rules.Broken.TheVariants as rules
use Rattle.emu_names.specs.declared.rules.What.TheVariants as counted
use Rattle.level_items.specs.declared.annot.AnnotItem.{AnnotItem}
use Rattle.level_items.specs.declared.annot.AnnotLabel.{AnnotLabel}
use Rattle.level_items.specs.declared.annot.AnnotLink.{AnnotLink}
use Rattle.level_items.specs.declared.items.Item.{Item}
use Rattle.level_items.specs.declared.times.Time.{Time}
use Rattle.level_items.specs.declared.times.Time.TheVariants.{Span, Point}
use Rattle.level_items.specs.Levels.{Level, items_at, are_labels_for, is_short, retimed, relabelled, change_at, new_place}
use Rattle.level_items.specs.Faults.{time_fault}
use Rattle.std.specs.Option.{option_or, option_and_then}
use Rattle.level_items.proofs.Changes.{length-change_at}
use Rattle.link_builder.specs.Timed.{timed_pairs}
use Rattle.db_config.specs.declared.attributes.AttributeDef.{AttributeDef}
use Rattle.db_config.specs.declared.parts.ConfigParts.{ConfigParts}
use Rattle.db_config.specs.declared.parts.LevelDef.{LevelDef}
use Rattle.db_config.specs.Lookups.{level_named}
use Rattle.emu_names.specs.Texts.{same_text}
use Rattle.bundle_state.specs.Bundle.{BundleParts, all_ids, item_count, level_of_id}
use Rattle.bundle_state.specs.Built.{form_of, form_asked, FitsConfig}
use Rattle.bundle_state.specs.Linked.{unless_broken, definition_for}
use Rattle.emu_names.specs.Steps.{onward}
use Rattle.bundle_state.specs.Made.{label_named, made_labels, made_item}
use Rattle.bundle_state.specs.Valid.{KeepsBundleRules}
use Rattle.bundle_state.specs.Changed.{with_levels, change_level, with_item, without_item, with_changed, with_change, without, place_for, new_item_fault, new_time_fault, item_added, item_removed, label_set, item_retimed, link_put, link_added, link_put_at, link_inserted, missing_fault, link_removed}
use Rattle.bundle_state.specs.ChangedLaws.{HasRoomFor}
use Rattle.bundle_state.proofs.Tests.{Each, or_none, cond_none}
use Rattle.bundle_state.proofs.LinksKept.{goes_on, ok_same, fine_value}
use Rattle.bundle_state.proofs.BuiltKept.{unbroken}
use Rattle.bundle_state.proofs.ChangedKept.{added_item_rules, removed_item_rules, label_rules, time_rules, added_link_rules, removed_link_rules, added_item_fits, removed_item_fits, label_fits, time_fits, added_link_fits, removed_link_fits}
use Rattle.bundle_state.proofs.LinkPlaces.{placed_link_rules, placed_link_fits}
use Rattle.bundle_edits.specs.declared.bundle_change.Counts.{Counts}
use Rattle.bundle_edits.specs.declared.edit.Edit.{Edit}
use Rattle.bundle_edits.specs.declared.edit.Edit.TheVariants as edits
use Rattle.bundle_edits.specs.declared.segments.Segment.{Segment}
use Rattle.bundle_edits.specs.Changes.{level_found, numbered, NumberedLevel, room_fault, id_fault, label_fault, given_label_fault, new_labels_fault, given_item_fault, put_on, item_put, NumberedAttribute, attribute_of, labelled, label_given, segment_of, next_of, cut_fault, last_of, moved, second_part, cut_at, boundary_moved, split_in, segment_split, joined, segments_merged, is_linked, timed_fault, pair_linked, pairs_linked, levels_linked, times_linked, bundle_changed}
use Rattle.bundle_edits.proofs.Spans.{some_same}
use Rattle.bundle_edits.proofs.Places.{level_here}
use Rattle.bundle_edits.proofs.Cuts.{IsSegmentOf, ArePair, IsCut, segment_found, pair_found, cut_parts, moved_back, moved_on, merged, cut_short, part_added}

pub record IsNext (config : ConfigParts) (n : ℕ) (b next : BundleParts) : Type 0 where
  pub key : next.key ≡ b.key
  pub rules : KeepsBundleRules next
  pub fits : FitsConfig config next
  pub few : item_count next.levels ≤ item_count b.levels + n

next_then : (config : ConfigParts) (n k : ℕ) (b mid next : BundleParts) → IsNext config n b mid → IsNext config k mid next → IsNext config (n + k) b next
next_then config n k b mid next first second =
    let one = first.few in
    let two = second.few in
    record { key = second.key ∙ first.key; rules = second.rules; fits = second.fits; few = omega arith }

same_next : (config : ConfigParts) (b next : BundleParts) → KeepsBundleRules b → FitsConfig config b → b ≡ next → IsNext config 0 b next
same_next config b next keeps fits same = record {
  key = ap (λ (c : BundleParts). c.key) (sym same);
  rules = subst KeepsBundleRules same keeps;
  fits = subst (FitsConfig config) same fits;
  few = subst (λ (c : BundleParts). item_count c.levels ≤ item_count b.levels + 0) same (omega arith);
}

-- How many items there are.

count_within : (n : ℕ) (f : Level → Level) → ((l : Level) → length (f l).items ≤ length l.items + n) → (k : ℕ) (levels : List Level) →
    item_count (change_level f k levels) ≤ item_count levels + n
count_within n f few k [] = omega arith
count_within n f few zero (x ∷ levels) =
    let new : item_count (f x ∷ levels) ≡ length (f x).items + item_count levels = sum_by-cons (λ (l : Level). length l.items) (f x) levels in
    let old : item_count (x ∷ levels) ≡ length x.items + item_count levels = sum_by-cons (λ (l : Level). length l.items) x levels in
    let own = few x in
    omega (arith, new, old, own)
count_within n f few (suc k) (x ∷ levels) =
    let new : item_count (x ∷ change_level f k levels) ≡ length x.items + item_count (change_level f k levels) = sum_by-cons (λ (l : Level). length l.items) x (change_level f k levels) in
    let old : item_count (x ∷ levels) ≡ length x.items + item_count levels = sum_by-cons (λ (l : Level). length l.items) x levels in
    let rest = count_within n f few k levels in
    omega (arith, new, old, rest)

changed_within : (f : Item → Item) (i k : ℕ) (levels : List Level) → item_count (change_level (with_changed f i) k levels) ≤ item_count levels + 0
changed_within f i k levels =
    count_within 0 (with_changed f i) (λ l. let same : length (change_at f i l.items) ≡ length l.items = length-change_at f i l.items in omega (arith, same)) k levels

halves_within : {A : Type 0} (xs : List A) (i : ℕ) → length (take i xs) + length (drop i xs) ≡ length xs
halves_within xs i = sym (length-append (take i xs) (drop i xs)) ∙ ap length (take-append-drop i xs)

inserted_within : (items : List Item) (i : ℕ) (x : Item) → length (insert items i x) ≤ length items + 1
inserted_within items i x =
    let whole : length (take i items ++ x ∷ drop i items) ≡ length (take i items) + suc (length (drop i items)) = length-append (take i items) (x ∷ drop i items) in
    let parts = halves_within items i in
    omega (arith, whole, parts)

drop_less : {A : Type 0} (xs : List A) (i : ℕ) → length (drop (suc i) xs) ≤ length (drop i xs)
drop_less [] i = omega arith
drop_less (x ∷ xs) zero = omega arith
drop_less (x ∷ xs) (suc i) = drop_less xs i

removed_within : (items : List Item) (i : ℕ) → length (remove items i) ≤ length items + 0
removed_within items i =
    let whole : length (take i items ++ drop (suc i) items) ≡ length (take i items) + length (drop (suc i) items) = length-append (take i items) (drop (suc i) items) in
    let parts = halves_within items i in
    let less = drop_less items i in
    omega (arith, whole, parts, less)

-- The changes of items and links.

module _ (config : ConfigParts) (b next : BundleParts) (keeps : KeepsBundleRules b) (fits : FitsConfig config b) where
  pub added_next : (number : ℕ) (position : Option ℕ) (item : Item) → HasRoomFor number item b → item_added number position item b ≡ Ok next → IsNext config 1 b next
  added_next number position item room is =
      let same = (unbroken (new_item_fault number position item b.levels) (with_levels b (change_level (with_item position item) number b.levels)) next is).1 in
      record {
        key = ap (λ (c : BundleParts). c.key) (sym same);
        rules = added_item_rules number position item b next room keeps is;
        fits = added_item_fits number position item config b next fits is;
        few = subst (λ (c : BundleParts). item_count c.levels ≤ item_count b.levels + 1) same
            (count_within 1 (with_item position item) (λ l. inserted_within l.items (new_place l.kind l.items position item.time) item) number b.levels);
      }

  pub removed_next : (id : ItemId) → item_removed id b ≡ Ok next → IsNext config 0 b next
  removed_next id is =
      let on = goes_on (place_for id b.levels) (λ place. fine_value (without id place b)) next is in
      let same = ok_same (without id on.middle b) next on.second in
      record {
        key = ap (λ (c : BundleParts). c.key) (sym same);
        rules = removed_item_rules id b next keeps is;
        fits = removed_item_fits id config b next fits is;
        few = subst (λ (c : BundleParts). item_count c.levels ≤ item_count b.levels + 0) same
            (count_within 0 (without_item on.middle.1) (λ l. removed_within l.items on.middle.1) on.middle.0 b.levels);
      }

  pub labelled_next : (id : ItemId) (attribute : ℕ) (label : List ℕ) → is_short label ≡ true → label_set id attribute label b ≡ Ok next → IsNext config 0 b next
  labelled_next id attribute label short is =
      let on = goes_on (place_for id b.levels) (λ place. fine_value (with_change (relabelled attribute label) place b)) next is in
      let same = ok_same (with_change (relabelled attribute label) on.middle b) next on.second in
      record {
        key = ap (λ (c : BundleParts). c.key) (sym same);
        rules = label_rules id attribute label short b next keeps is;
        fits = label_fits id attribute label config b next fits is;
        few = subst (λ (c : BundleParts). item_count c.levels ≤ item_count b.levels + 0) same (changed_within (relabelled attribute label) on.middle.1 on.middle.0 b.levels);
      }

  pub retimed_next : (id : ItemId) (time : Time) → item_retimed id time b ≡ Ok next → IsNext config 0 b next
  retimed_next id time is =
      let on = goes_on (place_for id b.levels) (λ place. unless_broken (new_time_fault place time b.levels) (with_change (retimed time) place b)) next is in
      let same = (unbroken (new_time_fault on.middle time b.levels) (with_change (retimed time) on.middle b) next on.second).1 in
      record {
        key = ap (λ (c : BundleParts). c.key) (sym same);
        rules = time_rules id time b next keeps is;
        fits = time_fits id time config b next fits is;
        few = subst (λ (c : BundleParts). item_count c.levels ≤ item_count b.levels + 0) same (changed_within (retimed time) on.middle.1 on.middle.0 b.levels);
      }

  pub linked_next : (from to : ItemId) → link_added from to b ≡ Ok next → IsNext config 0 b next
  linked_next from to is =
      let on = goes_on (definition_for b.definitions (record { from = from; to = to }) (level_of_id b.levels from.0) (level_of_id b.levels to.0)) (link_put from to b) next is in
      let same = (unbroken _ _ next on.second).1 in
      record {
        key = ap (λ (c : BundleParts). c.key) (sym same);
        rules = added_link_rules from to b next keeps is;
        fits = added_link_fits from to config b next fits is;
        few = subst (λ (c : BundleParts). item_count c.levels ≤ item_count b.levels + 0) same (omega arith);
      }

  pub placed_next : (place : ℕ) (from to : ItemId) → link_inserted place from to b ≡ Ok next → IsNext config 0 b next
  placed_next place from to is =
      let on = goes_on (definition_for b.definitions (record { from = from; to = to }) (level_of_id b.levels from.0) (level_of_id b.levels to.0)) (link_put_at place from to b) next is in
      let same = (unbroken _ _ next on.second).1 in
      record {
        key = ap (λ (c : BundleParts). c.key) (sym same);
        rules = placed_link_rules place from to b next keeps is;
        fits = placed_link_fits place from to config b next fits is;
        few = subst (λ (c : BundleParts). item_count c.levels ≤ item_count b.levels + 0) same (omega arith);
      }

  pub unlinked_next : (from to : ItemId) → link_removed from to b ≡ Ok next → IsNext config 0 b next
  unlinked_next from to is =
      let same = (unbroken (missing_fault from to b.links) _ next is).1 in
      record {
        key = ap (λ (c : BundleParts). c.key) (sym same);
        rules = removed_link_rules from to b next keeps is;
        fits = removed_link_fits from to config b next fits is;
        few = subst (λ (c : BundleParts). item_count c.levels ≤ item_count b.levels + 0) same (omega arith);
      }

-- links of pairs of items, one after another
pair_next : (config : ConfigParts) (pair : AnnotLink) (b next : BundleParts) → KeepsBundleRules b → FitsConfig config b → pair_linked pair b ≡ Ok next → IsNext config 0 b next
pair_next config pair b next keeps fits is = by (is_linked b.links pair) is
  where
    by : (t : Bool) → cond t (fine_value b) (link_added pair.from pair.to b) ≡ Ok next → IsNext config 0 b next
    by true same = same_next config b next keeps fits (ok_same b next same)
    by false added = linked_next config b next keeps fits pair.from pair.to added

pub pairs_next : (config : ConfigParts) (pairs : List AnnotLink) (b next : BundleParts) → KeepsBundleRules b → FitsConfig config b → pairs_linked pairs b ≡ Ok next → IsNext config 0 b next
pairs_next config [] b next keeps fits is = same_next config b next keeps fits (ok_same b next is)
pairs_next config (pair ∷ pairs) b next keeps fits is =
    let on = goes_on (pair_linked pair b) (pairs_linked pairs) next is in
    let one : IsNext config 0 b on.middle = pair_next config pair b on.middle keeps fits on.first in
    next_then config 0 0 b on.middle next one (pairs_next config pairs on.middle next one.rules one.fits on.second)

times_next : (config : ConfigParts) (upper lower : List ℕ) (b next : BundleParts) → KeepsBundleRules b → FitsConfig config b → times_linked config upper lower b ≡ Ok next → IsNext config 0 b next
times_next config upper lower b next keeps fits is =
    let one = goes_on (level_found upper config.levels) (λ k. onward (level_found lower config.levels) (levels_linked b k)) next is in
    let two = goes_on (level_found lower config.levels) (levels_linked b one.middle) next one.second in
    let pairs = timed_pairs (items_at b.levels one.middle.0) (items_at b.levels two.middle.0) in
    let three = goes_on (unless_broken (timed_fault b one.middle two.middle) b) (pairs_linked pairs) next two.second in
    let passed = unbroken (timed_fault b one.middle two.middle) b three.middle three.first in
    pairs_next config pairs b next keeps fits (ap (λ (c : BundleParts). pairs_linked pairs c) passed.1 ∙ three.second)

pub retimed_few : (b next : BundleParts) (id : ItemId) (time : Time) → item_retimed id time b ≡ Ok next → item_count next.levels ≤ item_count b.levels + 0
retimed_few b next id time is =
    let on = goes_on (place_for id b.levels) (λ place. unless_broken (new_time_fault place time b.levels) (with_change (retimed time) place b)) next is in
    let same = (unbroken (new_time_fault on.middle time b.levels) (with_change (retimed time) on.middle b) next on.second).1 in
    subst (λ (c : BundleParts). item_count c.levels ≤ item_count b.levels + 0) same (changed_within (retimed time) on.middle.1 on.middle.0 b.levels)

-- Labels.

pub short_of : (tested : Bool) (def : AttributeDef) (label : List ℕ) → label_fault tested def label ≡ None → is_short label ≡ true
short_of tested def label is =
    let low : nat_lt LABEL_BYTES (length label) ≡ false = (cond_none (nat_lt LABEL_BYTES (length label)) rules.LabelTooLong _ is).0 in
    le-leb (length label) LABEL_BYTES (ltb-false LABEL_BYTES (length label) low)

given_short : (tested : Bool) (named : List (List ℕ)) (l : AnnotLabel) (o : Option AttributeDef) → given_label_fault tested named l o ≡ None → is_short l.value ≡ true
given_short tested named l None is = absurd cc
given_short tested named l (Some def) is = short_of tested def l.value (cond_none (list_any (same_text l.name) named) (rules.TwoLabels l.name) (label_fault tested def l.value) is).1

labels_short : (tested : Bool) (defs : List AttributeDef) (named : List (List ℕ)) (ls : List AnnotLabel) → new_labels_fault tested defs named ls ≡ None → Each (λ l. is_short l.value ≡ true) ls
labels_short tested defs named [] is = tt
labels_short tested defs named (l ∷ ls) is =
    let parts = or_none (given_label_fault tested named l (find (λ d. same_text d.name l.name) defs)) (new_labels_fault tested defs (named ++ l.name ∷ []) ls) is in
    (given_short tested named l (find (λ d. same_text d.name l.name) defs) parts.0, labels_short tested defs (named ++ l.name ∷ []) ls parts.1)

named_short : (name : List ℕ) (ls : List AnnotLabel) → Each (λ l. is_short l.value ≡ true) ls → is_short (label_named name ls) ≡ true
named_short name [] each = refl
named_short name (l ∷ ls) each = by (same_text l.name name) (named_short name ls each.1)
  where
    by : (b : Bool) → is_short (label_named name ls) ≡ true → is_short (cond b l.value (label_named name ls)) ≡ true
    by true rest = each.0
    by false rest = rest

all_short : (defs : List AttributeDef) (ls : List AnnotLabel) → Each (λ l. is_short l.value ≡ true) ls → list_all is_short (made_labels defs ls) ≡ true
all_short [] ls each = refl
all_short (d ∷ defs) ls each = and_from (is_short (label_named d.name ls)) (list_all is_short (made_labels defs ls)) (named_short d.name ls each) (all_short defs ls each)

pub labels_fit : (tested : Bool) (defs : List AttributeDef) (ls : List AnnotLabel) (attributes : ℕ) → attributes ≡ length defs → new_labels_fault tested defs [] ls ≡ None →
    are_labels_for attributes (made_labels defs ls) ≡ true
labels_fit tested defs ls attributes same free =
    and_from (length (made_labels defs ls) == attributes) (list_all is_short (made_labels defs ls))
    (eq-eqb (length (made_labels defs ls)) attributes (length-map defs (λ (d : AttributeDef). label_named d.name ls) ∙ sym same))
    (all_short defs ls (labels_short tested defs [] ls free))

-- empty labels
abbrev empties : ℕ → List (List ℕ)
empties n = replicate n []

empty_short : (n : ℕ) → list_all is_short (empties n) ≡ true
empty_short zero = refl
empty_short (suc n) = empty_short n

empty_count : (n : ℕ) → length (empties n) ≡ n
empty_count zero = refl
empty_count (suc n) = ap suc (empty_count n)

pub empty_fit : (n : ℕ) → are_labels_for n (replicate n []) ≡ true
empty_fit n = and_from (length (empties n) == n) (list_all is_short (empties n)) (eq-eqb (length (empties n)) n (empty_count n)) (empty_short n)

-- The levels of a configuration and of a bundle.

pub record IsLevelFor (def : LevelDef) (levels : List Level) (number : ℕ) : Type 0 where
  pub level : Level
  pub there : slice_get levels number ≡ Some level
  pub kind : level.kind ≡ def.kind
  pub attributes : level.attributes ≡ length def.attributes

pub level_fitting : (defs : List LevelDef) (levels : List Level) (number : ℕ) (def : LevelDef) → map form_of levels ≡ map form_asked defs → slice_get defs number ≡ Some def → IsLevelFor def levels number
level_fitting [] levels number def same at = absurd cc
level_fitting (d ∷ defs) [] number def same at = absurd cc
level_fitting (d ∷ defs) (l ∷ levels) zero def same at =
    let own : (l.kind, l.attributes) ≡ (d.kind, length d.attributes) = cc in
    let def_is = some_same d def at in
    record {
      level = l;
      there = refl;
      kind = ap (λ (p : LevelKind × ℕ). p.0) own ∙ ap (λ (e : LevelDef). e.kind) def_is;
      attributes = ap (λ (p : LevelKind × ℕ). p.1) own ∙ ap (λ (e : LevelDef). length e.attributes) def_is;
    }
level_fitting (d ∷ defs) (l ∷ levels) (suc number) def same at =
    let tail : map form_of levels ≡ map form_asked defs = cc in
    let rest : IsLevelFor def levels number = level_fitting defs levels number def tail at in
    record { level = rest.level; there = rest.there; kind = rest.kind; attributes = rest.attributes }

-- the level of a name stands at its number
pub level_there : (name : List ℕ) (defs : List LevelDef) (m : NumberedLevel) → level_found name defs ≡ Ok m → slice_get defs m.0 ≡ Some m.1
level_there name defs m is = by (level_named name defs) is
  where
    at : (k : ℕ) (o : Option LevelDef) → slice_get defs k ≡ o → ok_or (option_map (λ (d : LevelDef). (k, d)) o) (rules.NoLevel name) ≡ Ok m → slice_get defs m.0 ≡ Some m.1
    at k None here h = absurd cc
    at k (Some d) here h = subst (λ (p : NumberedLevel). slice_get defs p.0 ≡ Some p.1) (ok_same (k, d) m h) here

    by : (o : Option ℕ) → ok_or (option_and_then (numbered defs) o) (rules.NoLevel name) ≡ Ok m → slice_get defs m.0 ≡ Some m.1
    by None h = absurd cc
    by (Some k) h = at k (slice_get defs k) refl h

-- as many levels as the configuration has
pub level_count : (config : ConfigParts) (b : BundleParts) → FitsConfig config b → length b.levels ≡ length config.levels
level_count config b fits =
    let one : length (map form_of b.levels) ≡ length b.levels = length-map b.levels form_of in
    let two : length (map form_asked config.levels) ≡ length config.levels = length-map config.levels form_asked in
    let same : length (map form_of b.levels) ≡ length (map form_asked config.levels) = ap length fits.levels in
    omega arith

-- labels for the levels of one bundle are labels for those of another of the same form
labels_alike : (xs ys : List Level) (k : ℕ) (labels : List (List ℕ)) → map form_of xs ≡ map form_of ys → IfSome (slice_get xs k) (λ l. IsTrue (are_labels_for l.attributes labels)) →
    IfSome (slice_get ys k) (λ l. IsTrue (are_labels_for l.attributes labels))
labels_alike xs [] k labels same fit = tt
labels_alike [] (y ∷ ys) k labels same fit = absurd cc
labels_alike (x ∷ xs) (y ∷ ys) zero labels same fit =
    let own : (x.kind, x.attributes) ≡ (y.kind, y.attributes) = cc in
    subst (λ (n : ℕ). IsTrue (are_labels_for n labels)) (ap (λ (p : LevelKind × ℕ). p.1) own) fit
labels_alike (x ∷ xs) (y ∷ ys) (suc k) labels same fit =
    let tail : map form_of xs ≡ map form_of ys = cc in
    labels_alike xs ys k labels tail fit

pub labels_still : (config : ConfigParts) (b next : BundleParts) (k : ℕ) (labels : List (List ℕ)) → FitsConfig config b → FitsConfig config next →
    IfSome (slice_get b.levels k) (λ l. IsTrue (are_labels_for l.attributes labels)) → IfSome (slice_get next.levels k) (λ l. IsTrue (are_labels_for l.attributes labels))
labels_still config b next k labels fits still = labels_alike b.levels next.levels k labels (fits.levels ∙ sym still.levels)

-- a level has no more items than the bundle
pub on_level : (levels : List Level) (k : ℕ) (l : Level) → slice_get levels k ≡ Some l → length l.items ≤ item_count levels
on_level [] k l at = absurd cc
on_level (x ∷ levels) zero l at =
    let whole : item_count (x ∷ levels) ≡ length x.items + item_count levels = sum_by-cons (λ (z : Level). length z.items) x levels in
    let same : length x.items ≡ length l.items = ap (λ (z : Level). length z.items) (some_same x l at) in
    omega (arith, whole, same)
on_level (x ∷ levels) (suc k) l at =
    let whole : item_count (x ∷ levels) ≡ length x.items + item_count levels = sum_by-cons (λ (z : Level). length z.items) x levels in
    let rest = on_level levels k l at in
    omega (arith, whole, rest)

-- Room.

pub room_parts : (counts : Counts) (levels : List Level) → room_fault counts levels ≡ None → (item_count levels < BUNDLE_ITEMS) × (counts.items < ALL_ITEMS)
room_parts counts levels is =
    let first = cond_none (nat_le BUNDLE_ITEMS (item_count levels)) (rules.TooMany counted.BundleItems) _ is in
    let second = cond_none (nat_le ALL_ITEMS counts.items) (rules.TooMany counted.AllItems) None first.1 in
    (leb-false BUNDLE_ITEMS (item_count levels) first.0, leb-false ALL_ITEMS counts.items second.0)

pub id_free : (id : ItemId) (levels : List Level) → id_fault id levels ≡ None → list_any (nat_eq id.0) (all_ids levels) ≡ false
id_free id levels is = (cond_none (list_any (nat_eq id.0) (all_ids levels)) (rules.IdTaken id) None is).0

-- The edits.

pub record HasNext (config : ConfigParts) (counts : Counts) (b next : BundleParts) : Type 0 where
  pub more : ℕ
  pub is : IsNext config more b next
  pub room : counts.items ≤ ALL_ITEMS → counts.items + more ≤ ALL_ITEMS

same_count : (config : ConfigParts) (counts : Counts) (b next : BundleParts) → IsNext config 0 b next → HasNext config counts b next
same_count config counts b next is = record { more = 0; is = is; room = λ low. omega (arith, low) }

one_more : (config : ConfigParts) (counts : Counts) (b next : BundleParts) → counts.items < ALL_ITEMS → IsNext config 1 b next → HasNext config counts b next
one_more config counts b next low is = record { more = 1; is = is; room = λ _. omega (arith, low) }

module _ (config : ConfigParts) (counts : Counts) (b next : BundleParts) (keeps : KeepsBundleRules b) (fits : FitsConfig config b) where
  -- room for an item on a level of the configuration
  pub has_room : (tested : Bool) (number : ℕ) (def : LevelDef) (item : AnnotItem) → slice_get config.levels number ≡ Some def → given_item_fault tested counts b.levels def item ≡ None →
      HasRoomFor number (made_item def.attributes item) b × (counts.items < ALL_ITEMS)
  has_room tested number def item there free =
      let one = or_none (room_fault counts b.levels) _ free in
      let two = or_none (id_fault item.id b.levels) _ one.1 in
      let three = or_none (time_fault def.kind item.time) (new_labels_fault tested def.attributes [] item.labels) two.1 in
      let room = room_parts counts b.levels one.0 in
      let own : IsLevelFor def b.levels number = level_fitting config.levels b.levels number def fits.levels there in (
        record {
          level = own.level;
          there = own.there;
          labels = labels_fit tested def.attributes item.labels own.level.attributes own.attributes three.1;
          room = room.0;
        },
        room.1,
      )

  put_next : (tested : Bool) (position : Option ℕ) (item : AnnotItem) (m : NumberedLevel) → slice_get config.levels m.0 ≡ Some m.1 → put_on tested counts position item b m ≡ Ok next → HasNext config counts b next
  put_next tested position item (number, def) there is =
      let on = goes_on (unless_broken (given_item_fault tested counts b.levels def item) b) (item_added number position (made_item def.attributes item)) next is in
      let passed = unbroken (given_item_fault tested counts b.levels def item) b on.middle on.first in
      let own : item_added number position (made_item def.attributes item) b ≡ Ok next =
      ap (λ (c : BundleParts). item_added number position (made_item def.attributes item) c) passed.1 ∙ on.second in
      let room = has_room tested number def item there passed.0 in
      one_more config counts b next room.1 (added_next config b next keeps fits number position (made_item def.attributes item) room.0 own)

  item_next : (tested : Bool) (level : List ℕ) (position : Option ℕ) (item : AnnotItem) → item_put tested config counts level position item b ≡ Ok next → HasNext config counts b next
  item_next tested level position item is =
      let on = goes_on (level_found level config.levels) (put_on tested counts position item b) next is in
      put_next tested position item on.middle (level_there level config.levels on.middle on.first) on.second

  label_next : (tested : Bool) (id : ItemId) (label : List ℕ) (m : NumberedAttribute) → labelled tested id label b m ≡ Ok next → HasNext config counts b next
  label_next tested id label (number, def) is =
      let on = goes_on (unless_broken (label_fault tested def label) b) (label_set id number label) next is in
      let passed = unbroken (label_fault tested def label) b on.middle on.first in
      let own : label_set id number label b ≡ Ok next = ap (λ (c : BundleParts). label_set id number label c) passed.1 ∙ on.second in
      same_count config counts b next (labelled_next config b next keeps fits id number label (short_of tested def label passed.0) own)

  given_next : (tested : Bool) (id : ItemId) (attribute label : List ℕ) → label_given tested config id attribute label b ≡ Ok next → HasNext config counts b next
  given_next tested id attribute label is =
      let one = goes_on (place_for id b.levels) (λ place. onward (attribute_of attribute (slice_get config.levels place.0)) (labelled tested id label b)) next is in
      let two = goes_on (attribute_of attribute (slice_get config.levels one.middle.0)) (labelled tested id label b) next one.second in
      label_next tested id label two.middle two.second

  twice_next : (first second : ItemId) (t u : Time) → onward (item_retimed first t b) (item_retimed second u) ≡ Ok next → HasNext config counts b next
  twice_next first second t u is =
      let on = goes_on (item_retimed first t b) (item_retimed second u) next is in
      let one : IsNext config 0 b on.middle = retimed_next config b on.middle keeps fits first t on.first in
      let two : IsNext config 0 on.middle next = retimed_next config on.middle next one.rules one.fits second u on.second in
      same_count config counts b next (next_then config 0 0 b on.middle next one two)

  move_next : (id : ItemId) (start : ℕ) → boundary_moved id start b ≡ Ok next → HasNext config counts b next
  move_next id start is =
      let one = goes_on (segment_of id b.levels) (λ s. onward (next_of b.levels s) (λ n. unless_broken (cut_fault s (last_of n) start) (moved start s n b))) next is in
      let s : Segment = one.middle in
      let two = goes_on (next_of b.levels s) (λ n. unless_broken (cut_fault s (last_of n) start) (moved start s n b)) next one.second in
      let n : Segment = two.middle in
      let three = unbroken (cut_fault s (last_of n) start) (moved start s n b) next two.second in
      let own : IsSegmentOf b.levels s = segment_found id b s keeps one.first in
      let pair : ArePair b.levels s n = pair_found b s n keeps own two.first in
      let cut : IsCut s (last_of n) start = cut_parts s (last_of n) start three.0 in
      by s n pair cut (nat_le start n.start) refl three.1
    where
      by : (s n : Segment) (pair : ArePair b.levels s n) (cut : IsCut s (last_of n) start) (early : Bool) → nat_le start n.start ≡ early → moved start s n b ≡ next → HasNext config counts b next
      by s n pair cut true e same =
          twice_next s.id n.id (Span s.start (start - 1 - s.start)) (Span start (last_of n - start))
          (moved_back b s n pair keeps.apart start cut (leb-true start n.start e) ∙ ap fine_value same)
      by s n pair cut false e same =
          twice_next n.id s.id (Span start (last_of n - start)) (Span s.start (start - 1 - s.start))
          (moved_on b s n pair keeps.apart start cut (leb-false start n.start e) ∙ ap fine_value same)

  merge_next : (id : ItemId) → segments_merged id b ≡ Ok next → HasNext config counts b next
  merge_next id is =
      let one = goes_on (segment_of id b.levels) (λ s. onward (next_of b.levels s) (λ n. fine_value (joined b s n))) next is in
      let s : Segment = one.middle in
      let two = goes_on (next_of b.levels s) (λ n. fine_value (joined b s n)) next one.second in
      let n : Segment = two.middle in
      let own : IsSegmentOf b.levels s = segment_found id b s keeps one.first in
      let pair : ArePair b.levels s n = pair_found b s n keeps own two.first in
      let time : Time = Span s.start (last_of n - s.start) in
      let steps : onward (item_removed n.id b) (item_retimed s.id time) ≡ Ok next = merged b s n pair keeps ∙ two.second in
      let on = goes_on (item_removed n.id b) (item_retimed s.id time) next steps in
      let taken : IsNext config 0 b on.middle = removed_next config b on.middle keeps fits n.id on.first in
      let last : IsNext config 0 on.middle next = retimed_next config on.middle next taken.rules taken.fits s.id time on.second in
      same_count config counts b next (next_then config 0 0 b on.middle next taken last)

  -- what a cut that breaks no rule comes to
  pub cut_room : (new_id : ItemId) (start : ℕ) (s : Segment) → option_or (room_fault counts b.levels) (option_or (id_fault new_id b.levels) (cut_fault s (last_of s) start)) ≡ None →
      (item_count b.levels < BUNDLE_ITEMS) × (counts.items < ALL_ITEMS) × (list_any (nat_eq new_id.0) (all_ids b.levels) ≡ false) × IsCut s (last_of s) start
  cut_room new_id start s free =
      let one = or_none (room_fault counts b.levels) _ free in
      let two = or_none (id_fault new_id b.levels) (cut_fault s (last_of s) start) one.1 in
      let room = room_parts counts b.levels one.0 in
      (room.0, room.1, id_free new_id b.levels two.0, cut_parts s (last_of s) start two.1)

  split_next : (id new_id : ItemId) (start : ℕ) → segment_split counts id new_id start b ≡ Ok next → HasNext config counts b next
  split_next id new_id start is =
      let one = goes_on (segment_of id b.levels) (split_in counts new_id start b) next is in
      let s : Segment = one.middle in
      let whole : BundleParts = with_levels b (change_level (cut_at new_id start s) s.level b.levels) in
      let two = unbroken (option_or (room_fault counts b.levels) (option_or (id_fault new_id b.levels) (cut_fault s (last_of s) start))) whole next one.second in
      let room = cut_room new_id start s two.0 in
      let p : IsSegmentOf b.levels s = segment_found id b s keeps one.first in
      let shorter : Time = Span s.start (start - 1 - s.start) in
      let mid : BundleParts = with_change (retimed shorter) (s.level, s.position) b in
      let first : item_retimed s.id shorter b ≡ Ok mid = cut_short b s p keeps.apart start room.3 new_id room.2 in
      let cut : IsNext config 0 b mid = retimed_next config b mid keeps fits s.id shorter first in
      let part : Item = second_part new_id start s p.level.attributes in
      let second : item_added s.level None part mid ≡ Ok next = part_added b s p keeps.apart start room.3 new_id room.2 cut.rules ∙ ap fine_value two.1 in
      one_more config counts b next room.1
      (next_then config 0 1 b mid next cut (added_next config mid next cut.rules cut.fits s.level None part (mid_room new_id start s p room.0) second))
    where
      mid_room : (new_id : ItemId) (start : ℕ) (s : Segment) (p : IsSegmentOf b.levels s) → item_count b.levels < BUNDLE_ITEMS →
          HasRoomFor s.level (second_part new_id start s p.level.attributes) (with_change (retimed (Span s.start (start - 1 - s.start))) (s.level, s.position) b)
      mid_room new_id start s p room =
          let time : Time = Span s.start (start - 1 - s.start) in
          let few = changed_within (retimed time) s.position s.level b.levels in
          record {
            level = with_changed (retimed time) s.position p.level;
            there = level_here (with_changed (retimed time) s.position) s.level b.levels p.level p.there;
            labels = empty_fit p.level.attributes;
            room = omega (arith, few, room);
          }

-- the labels that an item is made with are right for its level
pub has_room_on : (tested : Bool) (config : ConfigParts) (counts : Counts) (b : BundleParts) (number : ℕ) (def : LevelDef) (item : AnnotItem) (labels : List (List ℕ)) → FitsConfig config b →
    slice_get config.levels number ≡ Some def → given_item_fault tested counts b.levels def item ≡ None → labels ≡ made_labels def.attributes item.labels →
    IfSome (slice_get b.levels number) (λ l. IsTrue (are_labels_for l.attributes labels))
has_room_on tested config counts b number def item labels fits there free same =
    let one = or_none (room_fault counts b.levels) _ free in
    let two = or_none (id_fault item.id b.levels) _ one.1 in
    let three = or_none (time_fault def.kind item.time) (new_labels_fault tested def.attributes [] item.labels) two.1 in
    let own : IsLevelFor def b.levels number = level_fitting config.levels b.levels number def fits.levels there in
    subst (λ (o : Option Level). IfSome o (λ l. IsTrue (are_labels_for l.attributes labels))) (sym own.there)
    (subst (λ (ls : List (List ℕ)). are_labels_for own.level.attributes ls ≡ true) (sym same) (labels_fit tested def.attributes item.labels own.level.attributes own.attributes three.1))

pub bundle_next : (config : ConfigParts) (counts : Counts) (edit : Edit) (b next : BundleParts) → KeepsBundleRules b → FitsConfig config b →
    bundle_changed config counts edit b ≡ Ok next → HasNext config counts b next
bundle_next config counts (edits.AddBundle key annot) b next keeps fits is = absurd cc
bundle_next config counts (edits.DropBundle key) b next keeps fits is =
    let same : b ≡ next = ok_same b next is in
    same_count config counts b next (record {
      key = ap (λ (c : BundleParts). c.key) (sym same);
      rules = subst KeepsBundleRules same keeps;
      fits = subst (FitsConfig config) same fits;
      few = subst (λ (c : BundleParts). item_count c.levels ≤ item_count b.levels + 0) same (omega arith);
    })
bundle_next config counts (edits.AddItem key level position item) b next keeps fits is = item_next config counts b next keeps fits true level position item is
bundle_next config counts (edits.RemoveItem key id) b next keeps fits is = same_count config counts b next (removed_next config b next keeps fits id is)
bundle_next config counts (edits.SetLabel key id attribute label) b next keeps fits is = given_next config counts b next keeps fits true id attribute label is
bundle_next config counts (edits.SetSegment key id start dur) b next keeps fits is = same_count config counts b next (retimed_next config b next keeps fits id (Span start dur) is)
bundle_next config counts (edits.MoveBoundary key id start) b next keeps fits is = move_next config counts b next keeps fits id start is
bundle_next config counts (edits.SetPoint key id at) b next keeps fits is = same_count config counts b next (retimed_next config b next keeps fits id (Point at) is)
bundle_next config counts (edits.Split key id new_id start) b next keeps fits is = split_next config counts b next keeps fits id new_id start is
bundle_next config counts (edits.Merge key id) b next keeps fits is = merge_next config counts b next keeps fits id is
bundle_next config counts (edits.AddLink key from to) b next keeps fits is = same_count config counts b next (linked_next config b next keeps fits from to is)
bundle_next config counts (edits.RemoveLink key from to) b next keeps fits is = same_count config counts b next (unlinked_next config b next keeps fits from to is)
bundle_next config counts (edits.LinkTimes key upper lower) b next keeps fits is = same_count config counts b next (times_next config upper lower b next keeps fits is)
bundle_next config counts (edits.PutItem key level position item) b next keeps fits is = item_next config counts b next keeps fits false level position item is
bundle_next config counts (edits.PutLabel key id attribute label) b next keeps fits is = given_next config counts b next keeps fits false id attribute label is
bundle_next config counts (edits.PutLink key from to place) b next keeps fits is = same_count config counts b next (placed_next config b next keeps fits place from to is)
