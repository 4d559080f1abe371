-- What an edit makes of the bundle that it names, or the rule that it breaks first (EMU-SDMS Manual, "The
-- emuDB format": `_annot.json` and `legalLabels`).
use Rattle.std.specs.Prelude.{ℕ, suc, ◌+◌, ◌-◌, Bool, true, false, ◌&&◌, List, [], ◌∷◌, ◌++◌, length, insert, Option, Some, None, option_map, option_and_then, Result, Ok, Err, nat_eq, nat_le, nat_lt, if◌then◌else◌, ok_or, is_some, replicate, ◌==◌}
use Rattle.std.specs.List.{list_any, list_all, position, slice_get}
use Rattle.emu_names.specs.declared.limits.TheConstants.{ALL_ITEMS, BUNDLES, BUNDLE_ITEMS}
use Rattle.emu_names.specs.declared.kinds.ItemId.{ItemId}
use Rattle.emu_names.specs.declared.kinds.LevelKind.{LevelKind}
use Rattle.emu_names.specs.declared.kinds.LevelKind.TheVariants as levels
use Rattle.emu_names.specs.declared.names.BundleKey.{BundleKey}
use Rattle.emu_names.specs.declared.rules.Broken.{Broken}
use Rattle.emu_names.specs.declared.rules.Broken.TheVariants as rules
use Rattle.emu_names.specs.declared.rules.What.TheVariants as counted
use Rattle.level_items.specs.declared.annot.Annot.{Annot}
use Rattle.level_items.specs.declared.annot.AnnotItem.{AnnotItem}
use Rattle.level_items.specs.declared.annot.AnnotLink.{AnnotLink}
use Rattle.level_items.specs.declared.items.Item.{Item}
use Rattle.level_items.specs.declared.times.Time.{Time}
use Rattle.level_items.specs.declared.times.Time.TheVariants.{NoTime, Span, Point}
use Rattle.level_items.specs.Faults.{time_fault}
use Rattle.std.specs.Option.{option_or}
use Rattle.level_items.specs.Levels.{Level, with_items, items_at, change_at, retimed}
use Rattle.db_config.specs.declared.attributes.AttributeDef.{AttributeDef}
use Rattle.db_config.specs.declared.parts.ConfigParts.{ConfigParts}
use Rattle.db_config.specs.declared.parts.LevelDef.{LevelDef}
use Rattle.db_config.specs.declared.parts.LinkDef.{LinkDef}
use Rattle.db_config.specs.Lookups.{level_named, attribute_named, leads}
use Rattle.link_builder.specs.Timed.{timed_pairs}
use Rattle.link_graph.specs.declared.link.Link.{Link}
use Rattle.link_graph.specs.Link.{joins}
use Rattle.bundle_state.specs.Bundle.{BundleParts, all_ids, item_count}
use Rattle.bundle_state.specs.Built.{built}
use Rattle.bundle_state.specs.Linked.{unless_broken}
use Rattle.emu_names.specs.Steps.{onward}
use Rattle.bundle_state.specs.Made.{made_item}
pub use Rattle.bundle_state.specs.Labels.{label_fault, given_label_fault, new_labels_fault}
use Rattle.bundle_state.specs.Changed.{change_level, with_levels, with_change, without, place_for, item_added, item_removed, label_set, item_retimed, link_added, link_inserted, link_removed}
use Rattle.bundle_edits.specs.declared.bundle_change.Counts.{Counts}
use Rattle.bundle_edits.specs.declared.edit.Edit.{Edit}
use Rattle.bundle_edits.specs.declared.segments.Segment.{Segment}
use Rattle.bundle_edits.specs.declared.edit.Edit.TheVariants as edits

-- A new bundle.

-- a new bundle, unless all bundles would have too many items with it
abbrev pub unless_too_many : Counts → BundleParts → Result (Option BundleParts) Broken
unless_too_many counts new =
    if nat_lt ALL_ITEMS (counts.items + item_count new.levels) then Err (rules.TooMany counted.AllItems)
    else Ok (Some new)

-- the bundle of an annotation, unless there are too many bundles or items with it
abbrev pub bundle_added : ConfigParts → Counts → BundleKey → Annot → Result (Option BundleParts) Broken
bundle_added config counts key annot =
    if nat_le BUNDLES counts.bundles then Err (rules.TooMany counted.Bundles)
    else onward (built config key annot) (unless_too_many counts)

-- A new item.

-- the element of a number in a list, with its number
abbrev pub numbered : {A : Type 0} → List A → ℕ → Option (ℕ × A)
numbered list number = option_map (λ element. (number, element)) (slice_get list number)

-- the number and the definition of a level
abbrev pub NumberedLevel : Type 0
NumberedLevel = ℕ × LevelDef

-- the level of this name; there has to be one
abbrev pub level_found : List ℕ → List LevelDef → Result NumberedLevel Broken
level_found name defs =
    ok_or (option_and_then (numbered defs) (level_named name defs)) (rules.NoLevel name)

-- there is no room for one item more in the bundle, or in the whole database
abbrev pub room_fault : Counts → List Level → Option Broken
room_fault counts levels =
    if nat_le BUNDLE_ITEMS (item_count levels) then Some (rules.TooMany counted.BundleItems)
    else if nat_le ALL_ITEMS counts.items then Some (rules.TooMany counted.AllItems)
    else None

-- an id that an item of the bundle has
abbrev pub id_fault : ItemId → List Level → Option Broken
id_fault id levels = if list_any (nat_eq id.0) (all_ids levels) then Some (rules.IdTaken id) else None

-- the rule that a new item of a level breaks, before its position and its neighbours are looked at
abbrev pub given_item_fault : Bool → Counts → List Level → LevelDef → AnnotItem → Option Broken
given_item_fault tested counts levels def item =
    option_or (room_fault counts levels)
    (option_or (id_fault item.id levels)
    (option_or (time_fault def.kind item.time) (new_labels_fault tested def.attributes [] item.labels)))

-- a new item on a level
abbrev pub put_on : Bool → Counts → Option ℕ → AnnotItem → BundleParts → NumberedLevel → Result BundleParts Broken
put_on tested counts position item b (number, def) =
    onward (unless_broken (given_item_fault tested counts b.levels def item) b)
    (item_added number position (made_item def.attributes item))

-- a new item on the level of a name
abbrev pub item_put : Bool → ConfigParts → Counts → List ℕ → Option ℕ → AnnotItem → BundleParts → Result BundleParts Broken
item_put tested config counts level position item b =
    onward (level_found level config.levels) (put_on tested counts position item b)

-- A label.

-- the number and the definition of an attribute
abbrev pub NumberedAttribute : Type 0
NumberedAttribute = ℕ × AttributeDef

-- the attribute of this name; there has to be one
abbrev pub attribute_found : List ℕ → List AttributeDef → Result NumberedAttribute Broken
attribute_found name defs =
    ok_or (option_and_then (numbered defs) (attribute_named name defs)) (rules.NoAttribute name)

-- the attribute of this name on a level of the configuration
abbrev pub attribute_of : List ℕ → Option LevelDef → Result NumberedAttribute Broken
attribute_of name None = Err (rules.NoAttribute name)
attribute_of name (Some def) = attribute_found name def.attributes

-- another label of an item for an attribute
abbrev pub labelled : Bool → ItemId → List ℕ → BundleParts → NumberedAttribute → Result BundleParts Broken
labelled tested id label b (attribute, def) =
    onward (unless_broken (label_fault tested def label) b) (label_set id attribute label)

-- another label of an item for the attribute of a name
abbrev pub label_given : Bool → ConfigParts → ItemId → List ℕ → List ℕ → BundleParts → Result BundleParts Broken
label_given tested config id attribute label b =
    onward (place_for id b.levels) (λ place.
    onward (attribute_of attribute (slice_get config.levels place.0)) (labelled tested id label b))

-- Segments that touch.

-- the last sample of a segment
abbrev pub last_of : Segment → ℕ
last_of s = s.start + s.dur

-- the item at a place, as a segment; an item with another time is none
abbrev pub timed_segment : ℕ × ℕ → ItemId → Time → Option Segment
timed_segment place id (Span start dur) =
    Some (record { level = place.0; position = place.1; id = id; start = start; dur = dur })
timed_segment place id NoTime = None
timed_segment place id (Point at) = None

-- the item at a place, if there is one, as a segment
abbrev pub item_segment : ℕ × ℕ → Option Item → Option Segment
item_segment place None = None
item_segment place (Some item) = timed_segment place item.id item.time

-- the item at a place, if there is one
abbrev pub item_at : List Level → ℕ × ℕ → Option Item
item_at levels place = option_and_then (λ level. slice_get level.items place.1) (slice_get levels place.0)

-- the segment at a place, if there is one
abbrev pub segment_at : List Level → ℕ × ℕ → Option Segment
segment_at levels place = item_segment place (item_at levels place)

-- the segment with an id; the item of that id has to be there, on a SEGMENT level
abbrev pub segment_of : ItemId → List Level → Result Segment Broken
segment_of id levels = onward (place_for id levels) (λ place. ok_or (segment_at levels place) rules.TimeKind)

-- a segment, if it begins with the sample behind the last one of this segment
abbrev pub if_touching : Segment → Option Segment → Result Segment Broken
if_touching s None = Err (rules.NoNeighbour s.id)
if_touching s (Some next) = if next.start == suc (last_of s) then Ok next else Err (rules.NoNeighbour s.id)

-- the segment that follows this one at once, and touches it
abbrev pub next_of : List Level → Segment → Result Segment Broken
next_of levels s = if_touching s (segment_at levels (s.level, suc s.position))

-- a cut before the sample `start`: it has to leave the segment a sample, and what lies behind it, up to the sample
-- `last`, another
abbrev pub cut_fault : Segment → ℕ → ℕ → Option Broken
cut_fault s last start = if nat_lt s.start start && nat_le start last then None else Some rules.CutOut

-- the bundle with another time for a segment
abbrev pub with_time : Segment → ℕ → ℕ → BundleParts → BundleParts
with_time s start dur b = with_change (retimed (Span start dur)) (s.level, s.position) b

-- the first segment ends before the sample, and the one that follows it begins there and keeps its end
abbrev pub moved : ℕ → Segment → Segment → BundleParts → BundleParts
moved start s next b =
    with_time s s.start (start - 1 - s.start) (with_time next start (last_of next - start) b)

-- the boundary between a segment and the one that follows it at once
abbrev pub boundary_moved : ItemId → ℕ → BundleParts → Result BundleParts Broken
boundary_moved id start b =
    onward (segment_of id b.levels) (λ s.
    onward (next_of b.levels s) (λ next.
    unless_broken (cut_fault s (last_of next) start) (moved start s next b)))

-- the second part of a segment, without labels
abbrev pub second_part : ItemId → ℕ → Segment → ℕ → Item
second_part new_id start s attributes = record {
  id = new_id;
  time = Span start (last_of s - start);
  labels = replicate attributes [];
}

-- a level on which the segment ends before the sample, and the second part stands behind it
abbrev pub cut_at : ItemId → ℕ → Segment → Level → Level
cut_at new_id start s level =
    with_items level (insert (change_at (retimed (Span s.start (start - 1 - s.start))) s.position level.items)
    (suc s.position) (second_part new_id start s level.attributes))

-- a segment in two parts
abbrev pub split_in : Counts → ItemId → ℕ → BundleParts → Segment → Result BundleParts Broken
split_in counts new_id start b s =
    unless_broken (option_or (room_fault counts b.levels)
    (option_or (id_fault new_id b.levels) (cut_fault s (last_of s) start)))
    (with_levels b (change_level (cut_at new_id start s) s.level b.levels))

-- the segment with an id in two parts
abbrev pub segment_split : Counts → ItemId → ItemId → ℕ → BundleParts → Result BundleParts Broken
segment_split counts id new_id start b = onward (segment_of id b.levels) (split_in counts new_id start b)

-- the segment that follows is taken out with its links, and the first one ends where it ended
abbrev pub joined : BundleParts → Segment → Segment → BundleParts
joined b s next =
    with_time s s.start (last_of next - s.start) (without next.id (next.level, next.position) b)

-- the segment with an id and the one that follows it at once in one
abbrev pub segments_merged : ItemId → BundleParts → Result BundleParts Broken
segments_merged id b =
    onward (segment_of id b.levels) (λ s. onward (next_of b.levels s) (λ next. Ok (joined b s next)))

-- Links that times give.

-- the upper level has to be a SEGMENT level, and the items of the lower one have to have times
abbrev pub timed_kinds_fault : LevelKind → LevelKind → Option Broken
timed_kinds_fault levels.Item lower = Some rules.TimeKind
timed_kinds_fault levels.Event lower = Some rules.TimeKind
timed_kinds_fault levels.Segment levels.Item = Some rules.TimeKind
timed_kinds_fault levels.Segment levels.Segment = None
timed_kinds_fault levels.Segment levels.Event = None

-- a definition has to lead from the one level to the other
abbrev pub definition_fault : List LinkDef → ℕ → ℕ → Option Broken
definition_fault defs upper lower = if is_some (position (leads upper lower) defs) then None else Some rules.NoLinkDefinition

-- whether a pair of items is a link already
abbrev pub is_linked : List Link → AnnotLink → Bool
is_linked links pair = list_any (joins pair.from pair.to) links

-- of these pairs of items one has to be no link yet
abbrev pub linked_fault : List AnnotLink → List Link → Option Broken
linked_fault pairs links = if list_all (is_linked links) pairs then Some rules.NothingToLink else None

-- the rule that links from the times of two levels break before the first of them is put
abbrev pub timed_fault : BundleParts → NumberedLevel → NumberedLevel → Option Broken
timed_fault b (upper, one) (lower, other) =
    option_or (timed_kinds_fault one.kind other.kind) (option_or (definition_fault b.definitions upper lower)
    (linked_fault (timed_pairs (items_at b.levels upper) (items_at b.levels lower)) b.links))

-- a pair of items that is no link yet is linked
abbrev pub pair_linked : AnnotLink → BundleParts → Result BundleParts Broken
pair_linked pair b = if is_linked b.links pair then Ok b else link_added pair.from pair.to b

-- these pairs of items, one after another
abbrev pub pairs_linked : List AnnotLink → BundleParts → Result BundleParts Broken
pairs_linked [] b = Ok b
pairs_linked (pair ∷ pairs) b = onward (pair_linked pair b) (pairs_linked pairs)

-- each item of the lower level with the segment of the upper one that holds it
abbrev pub levels_linked : BundleParts → NumberedLevel → NumberedLevel → Result BundleParts Broken
levels_linked b upper lower =
    onward (unless_broken (timed_fault b upper lower) b)
    (pairs_linked (timed_pairs (items_at b.levels upper.0) (items_at b.levels lower.0)))

-- the same of the levels of two names
abbrev pub times_linked : ConfigParts → List ℕ → List ℕ → BundleParts → Result BundleParts Broken
times_linked config upper lower b =
    onward (level_found upper config.levels) (λ one.
    onward (level_found lower config.levels) (levels_linked b one))

-- All edits.

-- what an edit makes of a bundle that is there
abbrev pub bundle_changed : ConfigParts → Counts → Edit → BundleParts → Result BundleParts Broken
bundle_changed config counts (edits.AddBundle key annot) b = Err rules.BundleTaken
bundle_changed config counts (edits.DropBundle key) b = Ok b
bundle_changed config counts (edits.AddItem key level position item) b = item_put true config counts level position item b
bundle_changed config counts (edits.RemoveItem key id) b = item_removed id b
bundle_changed config counts (edits.SetLabel key id attribute label) b = label_given true config id attribute label b
bundle_changed config counts (edits.SetSegment key id start dur) b = item_retimed id (Span start dur) b
bundle_changed config counts (edits.MoveBoundary key id start) b = boundary_moved id start b
bundle_changed config counts (edits.SetPoint key id at) b = item_retimed id (Point at) b
bundle_changed config counts (edits.Split key id new_id start) b = segment_split counts id new_id start b
bundle_changed config counts (edits.Merge key id) b = segments_merged id b
bundle_changed config counts (edits.AddLink key from to) b = link_added from to b
bundle_changed config counts (edits.RemoveLink key from to) b = link_removed from to b
bundle_changed config counts (edits.LinkTimes key upper lower) b = times_linked config upper lower b
bundle_changed config counts (edits.PutItem key level position item) b = item_put false config counts level position item b
bundle_changed config counts (edits.PutLabel key id attribute label) b = label_given false config id attribute label b
bundle_changed config counts (edits.PutLink key from to place) b = link_inserted place from to b

-- whether the bundle is there behind an edit of it
abbrev pub is_kept_by : Edit → Bool
is_kept_by (edits.DropBundle key) = false
is_kept_by edit = true

-- the bundle, where the edit keeps it
abbrev pub if_kept : Edit → BundleParts → Result (Option BundleParts) Broken
if_kept edit b = Ok (if is_kept_by edit then Some b else None)

-- what an edit makes where no bundle has its key
abbrev pub missing_changed : ConfigParts → Counts → Edit → Result (Option BundleParts) Broken
missing_changed config counts (edits.AddBundle key annot) = bundle_added config counts key annot
missing_changed config counts edit = Err rules.NoBundle

-- what an edit makes of the bundle of its key, which may be missing before it and after it
abbrev pub changed : ConfigParts → Counts → Option BundleParts → Edit → Result (Option BundleParts) Broken
changed config counts None edit = missing_changed config counts edit
changed config counts (Some b) edit = onward (bundle_changed config counts edit b) (if_kept edit)
