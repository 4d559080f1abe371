-- What takes changes of a bundle back.
use Rattle.std.specs.Prelude.{◌≡◌, ◌<◌, ℕ, Bool, true, false, not, List, [], ◌∷◌, Option, Some, None, Result, Ok, IsTrue, if◌then◌else◌}
use Rattle.std.specs.List.{slice_get}
use Rattle.emu_names.specs.declared.limits.TheConstants.{ALL_ITEMS}
use Rattle.emu_names.specs.declared.kinds.ItemId.{ItemId}
use Rattle.emu_names.specs.declared.rules.Broken.{Broken}
use Rattle.emu_names.specs.declared.rules.Broken.TheVariants as rules
use Rattle.emu_names.specs.Steps.{onward}
use Rattle.level_items.specs.declared.times.Time.{Time}
use Rattle.level_items.specs.declared.items.Item.{Item}
use Rattle.level_items.specs.Levels.{Level, are_labels_for}
use Rattle.link_graph.specs.declared.link.Link.{Link}
use Rattle.link_graph.specs.Link.{names_item, joins}
use Rattle.db_config.specs.declared.attributes.AttributeDef.{AttributeDef}
use Rattle.db_config.specs.declared.parts.ConfigParts.{ConfigParts}
use Rattle.db_config.specs.declared.parts.LevelDef.{LevelDef}
use Rattle.db_config.specs.Valid.{is_valid, are_apart}
use Rattle.bundle_state.specs.Bundle.{BundleParts}
use Rattle.bundle_state.specs.Built.{FitsConfig}
use Rattle.bundle_state.specs.Valid.{KeepsBundleRules}
use Rattle.bundle_state.specs.Changed.{with_links, without, links_without, item_added, item_removed, label_set, item_retimed, link_added, link_removed, link_inserted}
use Rattle.bundle_edits.specs.declared.bundle_change.Counts.{Counts}
use Rattle.bundle_edits.specs.Changes.{item_at, segment_of, next_of, boundary_moved, segment_split, segments_merged, item_put, attribute_of, label_given}
use Rattle.annot_json.specs.Given.{given_item}
use Rattle.annot_json.proofs.Fits.{AreNamed}
use Rattle.edit_undo.specs.Inverse.{position_again}
use Rattle.edit_undo.proofs.Own.{Segment}
use Rattle.undo_laws.proofs.Steps.{in_turn, left, placed_from}

-- a link put back at the place that it had
abbrev pub link_back : ℕ × Link → BundleParts → Result BundleParts Broken
link_back placed b = link_inserted placed.0 placed.1.from placed.1.to b

-- the links that pass a test put back where they were in an old bundle, places rising
abbrev pub links_back : (Link → Bool) → BundleParts → BundleParts → Result BundleParts Broken
links_back test old b = in_turn link_back (placed_from test 0 old.links) b

-- links that are taken out of a bundle can be put back, and give the bundle
abbrev pub LinksAreBack : Type 0
LinksAreBack =
    (b : BundleParts) (test : Link → Bool) → KeepsBundleRules b → IsTrue (are_apart b.definitions) →
    links_back test b (with_links b (left test b.links)) ≡ Ok b

-- the removal of a link is taken back
abbrev pub UnlinkedIsBack : Type 0
UnlinkedIsBack =
    (b c : BundleParts) (from to : ItemId) → KeepsBundleRules b → IsTrue (are_apart b.definitions) →
    link_removed from to b ≡ Ok c → links_back (joins from to) b c ≡ Ok b

-- a new link is taken back
abbrev pub LinkedIsBack : Type 0
LinkedIsBack =
    (b c : BundleParts) (from to : ItemId) → link_added from to b ≡ Ok c → link_removed from to c ≡ Ok b

-- so is one that was put at a place
abbrev pub LinkedAtIsBack : Type 0
LinkedAtIsBack =
    (b c : BundleParts) (place : ℕ) (from to : ItemId) → link_inserted place from to b ≡ Ok c → link_removed from to c ≡ Ok b

-- another time is taken back by the old one
abbrev pub RetimedIsBack : Type 0
RetimedIsBack =
    (b c : BundleParts) (id : ItemId) (place : ℕ × ℕ) (level : Level) (item : Item) (time : Time) → KeepsBundleRules b →
    slice_get b.levels place.0 ≡ Some level → slice_get level.items place.1 ≡ Some item → item.id ≡ id →
    item_retimed id time b ≡ Ok c → item_retimed id item.time c ≡ Ok b

-- another label is taken back by the old one
abbrev pub RelabelledIsBack : Type 0
RelabelledIsBack =
    (b c : BundleParts) (id : ItemId) (place : ℕ × ℕ) (level : Level) (item : Item) (attribute : ℕ) (old label : List ℕ) → KeepsBundleRules b →
    slice_get b.levels place.0 ≡ Some level → slice_get level.items place.1 ≡ Some item → item.id ≡ id →
    slice_get item.labels attribute ≡ Some old →
    label_set id attribute label b ≡ Ok c → label_set id attribute old c ≡ Ok b

-- a label that is not empty
abbrev pub is_given : List ℕ → Bool
is_given [] = false
is_given (c ∷ label) = true

-- the labels of an item, if there is one
abbrev pub labels_of : Option Item → List (List ℕ)
labels_of None = []
labels_of (Some item) = item.labels

-- a label of an item put back
abbrev pub label_back : ItemId → ℕ × List ℕ → BundleParts → Result BundleParts Broken
label_back id given b = label_set id given.0 given.1 b

-- the labels of the segment that an old bundle had put back, and then its links
abbrev pub rest_back : BundleParts → Segment → BundleParts → Result BundleParts Broken
rest_back old next b =
    onward (in_turn (label_back next.id) (placed_from is_given 0 (labels_of (item_at old.levels (next.level, next.position)))) b)
    (links_back (names_item next.id) old)

-- two segments that were joined cut again
abbrev pub merged_back : Counts → ItemId → BundleParts → BundleParts → Result BundleParts Broken
merged_back counts id old b =
    onward (segment_of id old.levels) (λ s.
    onward (next_of old.levels s) (λ next.
    onward (segment_split counts id next.id next.start b) (rest_back old next)))

-- two segments that are joined are cut again
abbrev pub MergedIsBack : Type 0
MergedIsBack =
    (counts : Counts) (b c : BundleParts) (id : ItemId) → KeepsBundleRules b → IsTrue (are_apart b.definitions) → counts.items < ALL_ITEMS →
    segments_merged id b ≡ Ok c → merged_back counts id b c ≡ Ok b

-- a segment that is cut is joined again
abbrev pub SplitIsBack : Type 0
SplitIsBack =
    (counts : Counts) (b c : BundleParts) (id new_id : ItemId) (start : ℕ) → KeepsBundleRules b → KeepsBundleRules c →
    segment_split counts id new_id start b ≡ Ok c → segments_merged id c ≡ Ok b

-- a boundary moves back
abbrev pub boundary_back : ItemId → BundleParts → BundleParts → Result BundleParts Broken
boundary_back id old b =
    onward (segment_of id old.levels) (λ s. onward (next_of old.levels s) (λ next. boundary_moved id next.start b))

abbrev pub MovedIsBack : Type 0
MovedIsBack =
    (b c : BundleParts) (id : ItemId) (start : ℕ) → KeepsBundleRules b → KeepsBundleRules c →
    boundary_moved id start b ≡ Ok c → boundary_back id b c ≡ Ok b

-- a new item is removed
abbrev pub AddedIsBack : Type 0
AddedIsBack =
    (b c : BundleParts) (number : ℕ) (position : Option ℕ) (item : Item) (level : Level) → KeepsBundleRules b → KeepsBundleRules c →
    slice_get b.levels number ≡ Some level → IsTrue (are_labels_for level.attributes item.labels) →
    item_added number position item b ≡ Ok c → item_removed item.id c ≡ Ok b

-- an item that was removed is put back by the name of its level and with its labels, legal or not
abbrev pub ItemsAreBack : Type 0
ItemsAreBack =
    (config : ConfigParts) (counts : Counts) (b : BundleParts) (place : ℕ × ℕ) (level : Level) (def : LevelDef) (item : Item) →
    IsTrue (is_valid config) → KeepsBundleRules b → FitsConfig config b → AreNamed def.attributes → counts.items < ALL_ITEMS →
    slice_get b.levels place.0 ≡ Some level → slice_get config.levels place.0 ≡ Some def → slice_get level.items place.1 ≡ Some item →
    item_put false config counts def.name (position_again level.kind place.1) (given_item def.attributes item) (without item.id place b)
    ≡ Ok (with_links b (links_without item.id b.links))

-- a label is taken back by the old one, legal or not
abbrev pub LabelsAreBack : Type 0
LabelsAreBack =
    (legal : Bool) (config : ConfigParts) (b c : BundleParts) (id : ItemId) (place : ℕ × ℕ) (level : Level) (item : Item)
    (name label old : List ℕ) (number : ℕ) (def : AttributeDef) → KeepsBundleRules b →
    slice_get b.levels place.0 ≡ Some level → slice_get level.items place.1 ≡ Some item → item.id ≡ id →
    attribute_of name (slice_get config.levels place.0) ≡ Ok (number, def) → slice_get item.labels number ≡ Some old →
    label_given legal config id name label b ≡ Ok c → label_given false config id name old c ≡ Ok b
