-- What takes an act back: the edits that lead from the database behind it to the one before it.
use Rattle.std.specs.Prelude.{ℕ, suc, Bool, not, List, [], ◌∷◌, ◌++◌, map, reverse, length, nat_le, ◌==◌, Option, Some, None, option_map, option_and_then, Result, Ok, Err, if◌then◌else◌}
use Rattle.std.specs.List.{enumerate_from, filter, slice_get}
use Rattle.std.specs.Option.{option_map_or}
use Rattle.emu_names.specs.declared.limits.TheConstants.{LIST_EDITS}
use Rattle.emu_names.specs.declared.kinds.ItemId.{ItemId}
use Rattle.emu_names.specs.declared.kinds.LevelKind.{LevelKind}
use Rattle.emu_names.specs.declared.kinds.LevelKind.TheVariants as kinds
use Rattle.emu_names.specs.declared.names.BundleKey.{BundleKey}
use Rattle.level_items.specs.declared.annot.AnnotLabel.{AnnotLabel}
use Rattle.level_items.specs.declared.annot.AnnotLink.{AnnotLink}
use Rattle.level_items.specs.declared.items.Item.{Item}
use Rattle.level_items.specs.declared.times.Time.{Time}
use Rattle.level_items.specs.declared.times.Time.TheVariants.{NoTime, Span, Point}
use Rattle.level_items.specs.Levels.{label_of}
use Rattle.level_items.specs.Times.{first_sample}
use Rattle.link_graph.specs.declared.link.Link.{Link}
use Rattle.link_graph.specs.Link.{joins, names_item}
use Rattle.db_config.specs.declared.parts.ConfigParts.{ConfigParts}
use Rattle.db_config.specs.declared.parts.LevelDef.{LevelDef}
use Rattle.db_config.specs.Lookups.{level_named, attribute_named}
use Rattle.bundle_state.specs.Bundle.{BundleParts, place_of}
use Rattle.bundle_edits.specs.declared.bundle_change.Counts.{Counts}
use Rattle.bundle_edits.specs.declared.edit.Edit.{Edit}
use Rattle.bundle_edits.specs.declared.edit.Edit.TheVariants as edits
use Rattle.bundle_edits.specs.Edits.{key_of}
use Rattle.bundle_edits.specs.Changes.{item_at, changed}
use Rattle.bundle_edits.specs.Laws.{new_pairs}
use Rattle.edit_rules.specs.declared.acts.Act.{Act}
use Rattle.edit_rules.specs.declared.acts.Act.TheVariants as acts
use Rattle.edit_rules.specs.Database.{DatabaseParts, bundle_with}
use Rattle.annot_json.specs.Given.{given, given_item, given_labels}
use Rattle.edit_undo.specs.declared.faults.NoUndo.{NoUndo}
use Rattle.edit_undo.specs.declared.faults.NoUndo.TheVariants as missing

-- Items.

-- the item at a place, with the definition of its level and its position there
pub record PlacedItem : Type 0 where
  pub def : LevelDef
  pub position : ℕ
  pub item : Item

-- the item at a position of a level of a number
abbrev pub placed_at : ConfigParts → BundleParts → ℕ × ℕ → Option PlacedItem
placed_at config b (number, position) =
    option_and_then (λ def. option_map (λ item. record { def = def; position = position; item = item })
    (item_at b.levels (number, position))) (slice_get config.levels number)

-- the item with an id
abbrev pub item_of : ConfigParts → BundleParts → ItemId → Option PlacedItem
item_of config b id = option_and_then (placed_at config b) (place_of b.levels id.0)

-- the item that follows the one with an id on its level
abbrev pub item_behind : ConfigParts → BundleParts → ItemId → Option PlacedItem
item_behind config b id =
    option_and_then (λ place. placed_at config b (place.0, suc place.1)) (place_of b.levels id.0)

-- the edits that something gives; none where it is not there
abbrev pub if_there : {A : Type 0} → (A → List Edit) → Option A → List Edit
if_there given found = option_map_or given found []

-- Links.

-- a link put back at the place that it had
abbrev pub link_again : BundleKey → ℕ × Link → Edit
link_again key (place, link) = edits.PutLink key link.from link.to place

-- the links that pass a test, each put back at the place that it had, places rising
abbrev pub links_again : BundleKey → (Link → Bool) → List Link → List Edit
links_again key test links =
    map (link_again key) (filter (λ placed. test placed.1) (enumerate_from 0 links))

-- the link of a pair of items taken out
abbrev pub pair_out : BundleKey → AnnotLink → Edit
pair_out key pair = edits.RemoveLink key pair.from pair.to

-- the pairs that the times of two levels link, taken out, the last one first
abbrev pub pairs_out : ConfigParts → BundleParts → BundleKey → List ℕ → List ℕ → List Edit
pairs_out config b key upper lower =
    if_there (λ u. if_there (λ l. map (pair_out key) (reverse (new_pairs b u l))) (level_named lower config.levels))
    (level_named upper config.levels)

-- What takes one edit back.

-- an item is put back at its position; none is named where its time gives the place
abbrev pub position_again : LevelKind → ℕ → Option ℕ
position_again kinds.Item position = Some position
position_again kinds.Segment position = None
position_again kinds.Event position = None

-- an item that was removed, put back with all its labels
abbrev pub item_again : BundleKey → PlacedItem → List Edit
item_again key p =
    edits.PutItem key p.def.name (position_again p.def.kind p.position) (given_item p.def.attributes p.item) ∷ []

-- the label that an item had for the attribute of a name
abbrev pub label_again : BundleKey → List ℕ → PlacedItem → List Edit
label_again key attribute p =
    if_there (λ number. edits.PutLabel key p.item.id attribute (label_of number p.item) ∷ [])
    (attribute_named attribute p.def.attributes)

-- the time that an item had
abbrev pub time_of_item : BundleKey → ItemId → Time → List Edit
time_of_item key id NoTime = []
time_of_item key id (Span start dur) = edits.SetSegment key id start dur ∷ []
time_of_item key id (Point at) = edits.SetPoint key id at ∷ []

-- the time that an item had, set again
abbrev pub time_again : BundleKey → PlacedItem → List Edit
time_again key p = time_of_item key p.item.id p.item.time

-- the boundary before an item put where the item began
abbrev pub boundary_again : BundleKey → ItemId → PlacedItem → List Edit
boundary_again key id p = edits.MoveBoundary key id (first_sample p.item.time) ∷ []

-- whether a label is not empty
abbrev pub is_labelled : AnnotLabel → Bool
is_labelled label = not (length label.value == 0)

-- a label put to an item
abbrev pub put_label : BundleKey → ItemId → AnnotLabel → Edit
put_label key id label = edits.PutLabel key id label.name label.value

-- the labels of an item that are not empty, in the order of the attributes
abbrev pub labels_again : BundleKey → PlacedItem → List Edit
labels_again key p =
    map (put_label key p.item.id) (filter is_labelled (given_labels p.def.attributes p.item.labels))

-- an item that was joined to the one with an id, cut off again with its labels and links
abbrev pub cut_again : BundleParts → BundleKey → ItemId → PlacedItem → List Edit
cut_again b key id p =
    edits.Split key id p.item.id (first_sample p.item.time) ∷ labels_again key p
    ++ links_again key (names_item p.item.id) b.links

-- what takes an edit of a bundle that is there back
abbrev pub own_inverse : ConfigParts → BundleParts → Edit → List Edit
own_inverse config b (edits.AddBundle key annot) = []
own_inverse config b (edits.DropBundle key) = edits.AddBundle key (given config b) ∷ []
own_inverse config b (edits.AddItem key level position item) = edits.RemoveItem key item.id ∷ []
own_inverse config b (edits.RemoveItem key id) =
    if_there (item_again key) (item_of config b id) ++ links_again key (names_item id) b.links
own_inverse config b (edits.SetLabel key id attribute label) =
    if_there (label_again key attribute) (item_of config b id)
own_inverse config b (edits.SetSegment key id start dur) = if_there (time_again key) (item_of config b id)
own_inverse config b (edits.MoveBoundary key id start) = if_there (boundary_again key id) (item_behind config b id)
own_inverse config b (edits.SetPoint key id at) = if_there (time_again key) (item_of config b id)
own_inverse config b (edits.Split key id new_id start) = edits.Merge key id ∷ []
own_inverse config b (edits.Merge key id) = if_there (cut_again b key id) (item_behind config b id)
own_inverse config b (edits.AddLink key from to) = edits.RemoveLink key from to ∷ []
own_inverse config b (edits.RemoveLink key from to) = links_again key (joins from to) b.links
own_inverse config b (edits.LinkTimes key upper lower) = pairs_out config b key upper lower
own_inverse config b (edits.PutItem key level position item) = edits.RemoveItem key item.id ∷ []
own_inverse config b (edits.PutLabel key id attribute label) =
    if_there (label_again key attribute) (item_of config b id)
own_inverse config b (edits.PutLink key from to place) = edits.RemoveLink key from to ∷ []

-- what takes an edit back that is made where no bundle has its key
abbrev pub missing_inverse : Edit → List Edit
missing_inverse (edits.AddBundle key annot) = edits.DropBundle key ∷ []
missing_inverse edit = []

-- what takes an edit back, over the bundle of its key before it, which may be missing
abbrev pub edit_inverse : ConfigParts → Option BundleParts → Edit → List Edit
edit_inverse config None edit = missing_inverse edit
edit_inverse config (Some b) edit = own_inverse config b edit

-- Lists of edits, and acts.

-- no bundle and no item beside: what an edit that breaks no rule makes does not depend on how many there are
abbrev pub uncounted : Counts
uncounted = record { bundles = 0; items = 0 }

-- what a next value gives; nothing, where there is none
abbrev pub from_next : {A B E : Type 0} → (A → List B) → Result A E → List B
from_next rest (Ok next) = rest next
from_next rest (Err fault) = []

-- what takes edits back which are made one after another: each over the bundle before it, the last one first
abbrev pub edits_inverse : ConfigParts → Option BundleParts → List Edit → List Edit
edits_inverse config old [] = []
edits_inverse config old (e ∷ es) =
    from_next (λ next. edits_inverse config next es) (changed config uncounted old e) ++ edit_inverse config old e

-- these edits as one act, unless they are too many for a list
abbrev pub if_few : List Edit → Result Act NoUndo
if_few es = if nat_le (length es) LIST_EDITS then Ok (acts.Edits es) else Err missing.TooManyEdits

-- the act that takes an act back, over the bundle of its key before it, or why there is none
abbrev pub inverse_of : ConfigParts → Option BundleParts → Act → Result Act NoUndo
inverse_of config old (acts.Edits es) = if_few (edits_inverse config old es)
inverse_of config old (acts.Config edit) = Err missing.NoInverse

-- the bundle of the key of an act, among these
abbrev pub bundle_for : Act → List BundleParts → Option BundleParts
bundle_for (acts.Edits []) bundles = None
bundle_for (acts.Edits (e ∷ es)) bundles = bundle_with (key_of e) bundles
bundle_for (acts.Config edit) bundles = None

-- the act that takes an act back, over the database before it, or why there is none
abbrev pub inverse_at : DatabaseParts → Act → Result Act NoUndo
inverse_at database act = inverse_of database.config (bundle_for act database.bundles) act
