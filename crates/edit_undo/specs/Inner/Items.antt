-- Words of the edits that put an item, its labels or its time back.
use Rattle.std.specs.Prelude.{ℕ, List, [], ◌∷◌, ◌++◌, map, Option, if◌then◌else◌}
use Rattle.std.specs.List.{filter}
use Rattle.emu_names.specs.declared.kinds.ItemId.{ItemId}
use Rattle.emu_names.specs.declared.names.BundleKey.{BundleKey}
use Rattle.level_items.specs.declared.annot.AnnotLabel.{AnnotLabel}
use Rattle.level_items.specs.declared.items.Item.{Item}
use Rattle.level_items.specs.Levels.{label_of}
use Rattle.level_items.specs.Times.{first_sample}
use Rattle.link_graph.specs.Link.{names_item}
use Rattle.db_config.specs.declared.parts.LevelDef.{LevelDef}
use Rattle.bundle_state.specs.Bundle.{BundleParts}
use Rattle.bundle_edits.specs.declared.edit.Edit.{Edit}
use Rattle.bundle_edits.specs.declared.edit.Edit.TheVariants as edits
use Rattle.annot_json.specs.Given.{given_labels}
use Rattle.edit_undo.specs.Inverse.{PlacedItem, item_again, label_again, time_again, boundary_again, cut_again, is_labelled, put_label, if_there, links_again}

-- an item with the definition of its level and its position there
abbrev pub placed : LevelDef → ℕ → Item → PlacedItem
placed def position item = record { def = def; position = position; item = item }

-- the label of an item for an attribute of a name, which has this number
abbrev pub given_number : BundleKey → List ℕ → Item → Option ℕ → List Edit
given_number key attribute item number =
    if_there (λ n. edits.PutLabel key item.id attribute (label_of n item) ∷ []) number

-- the boundary before an item put where it began
abbrev pub boundary_of : BundleKey → ItemId → Item → List Edit
boundary_of key id item = edits.MoveBoundary key id (first_sample item.time) ∷ []

-- a label put to an item, unless it is empty
abbrev pub if_labelled : BundleKey → ItemId → AnnotLabel → List Edit
if_labelled key id label = if is_labelled label then put_label key id label ∷ [] else []

-- those of some labels that are not empty
abbrev pub labels_from : BundleKey → ItemId → List AnnotLabel → List Edit
labels_from key id labels = map (put_label key id) (filter is_labelled labels)

-- an item that was joined to the one with an id, cut off again
abbrev pub cut_of : BundleParts → BundleKey → ItemId → LevelDef → Item → List Edit
cut_of b key id def item =
    edits.Split key id item.id (first_sample item.time) ∷ labels_from key item.id (given_labels def.attributes item.labels)
    ++ links_again key (names_item item.id) b.links

-- what an item gives that takes an edit back
abbrev pub again_by : BundleParts → Edit → PlacedItem → List Edit
again_by b (edits.AddBundle key annot) p = []
again_by b (edits.DropBundle key) p = []
again_by b (edits.AddItem key level position item) p = []
again_by b (edits.RemoveItem key id) p = item_again key p
again_by b (edits.SetLabel key id attribute label) p = label_again key attribute p
again_by b (edits.SetSegment key id start dur) p = time_again key p
again_by b (edits.MoveBoundary key id start) p = boundary_again key id p
again_by b (edits.SetPoint key id at) p = time_again key p
again_by b (edits.Split key id new_id start) p = []
again_by b (edits.Merge key id) p = cut_again b key id p
again_by b (edits.AddLink key from to) p = []
again_by b (edits.RemoveLink key from to) p = []
again_by b (edits.LinkTimes key upper lower) p = []
again_by b (edits.PutItem key level position item) p = []
again_by b (edits.PutLabel key id attribute label) p = label_again key attribute p
again_by b (edits.PutLink key from to place) p = []
