-- What an edit has behind its key: the fields of each kind of edits, in their order, and their forms.
use Rattle.std.specs.Prelude.{ℕ, List, Option, Some, None}
use Rattle.emu_names.specs.declared.kinds.ItemId.{ItemId}
use Rattle.emu_names.specs.declared.names.BundleKey.{BundleKey}
use Rattle.level_items.specs.declared.annot.Annot.{Annot}
use Rattle.level_items.specs.declared.annot.AnnotItem.{AnnotItem}
use Rattle.bundle_edits.specs.declared.edit.Edit.{Edit}
use Rattle.bundle_edits.specs.declared.edit.Edit.TheVariants as edits
use Rattle.edit_code.specs.declared.fields.Fields.{Fields}
use Rattle.edit_code.specs.declared.fields.Fields.TheVariants as fields
use Rattle.edit_code.specs.declared.kinds.Kind.{Kind}
use Rattle.edit_code.specs.declared.kinds.Kind.TheVariants as kinds
use Rattle.byte_forms.specs.Forms.{Form}
use Rattle.byte_forms.specs.Parts.{pair, imaged, just, option_of, u32_form, u64_form}
use Rattle.byte_forms.specs.Utf8.{text_form}
use Rattle.value_codes.specs.Annots.{annot_form, id_form, item_form}

-- what an edit has behind its key
abbrev pub fields_of : Edit → Fields
fields_of (edits.AddBundle key annot) = fields.AddBundle annot
fields_of (edits.DropBundle key) = fields.DropBundle
fields_of (edits.AddItem key level position item) = fields.AddItem level position item
fields_of (edits.RemoveItem key id) = fields.RemoveItem id
fields_of (edits.SetLabel key id attribute label) = fields.SetLabel id attribute label
fields_of (edits.SetSegment key id start dur) = fields.SetSegment id start dur
fields_of (edits.MoveBoundary key id start) = fields.MoveBoundary id start
fields_of (edits.SetPoint key id at) = fields.SetPoint id at
fields_of (edits.Split key id new_id start) = fields.Split id new_id start
fields_of (edits.Merge key id) = fields.Merge id
fields_of (edits.AddLink key from to) = fields.AddLink from to
fields_of (edits.RemoveLink key from to) = fields.RemoveLink from to
fields_of (edits.LinkTimes key upper lower) = fields.LinkTimes upper lower
fields_of (edits.PutItem key level position item) = fields.PutItem level position item
fields_of (edits.PutLabel key id attribute label) = fields.PutLabel id attribute label
fields_of (edits.PutLink key from to place) = fields.PutLink from to place

-- the edit of a key and what it has behind it
abbrev pub edit_of : BundleKey → Fields → Edit
edit_of key (fields.AddBundle annot) = edits.AddBundle key annot
edit_of key fields.DropBundle = edits.DropBundle key
edit_of key (fields.AddItem level position item) = edits.AddItem key level position item
edit_of key (fields.RemoveItem id) = edits.RemoveItem key id
edit_of key (fields.SetLabel id attribute label) = edits.SetLabel key id attribute label
edit_of key (fields.SetSegment id start dur) = edits.SetSegment key id start dur
edit_of key (fields.MoveBoundary id start) = edits.MoveBoundary key id start
edit_of key (fields.SetPoint id at) = edits.SetPoint key id at
edit_of key (fields.Split id new_id start) = edits.Split key id new_id start
edit_of key (fields.Merge id) = edits.Merge key id
edit_of key (fields.AddLink from to) = edits.AddLink key from to
edit_of key (fields.RemoveLink from to) = edits.RemoveLink key from to
edit_of key (fields.LinkTimes upper lower) = edits.LinkTimes key upper lower
edit_of key (fields.PutItem level position item) = edits.PutItem key level position item
edit_of key (fields.PutLabel id attribute label) = edits.PutLabel key id attribute label
edit_of key (fields.PutLink from to place) = edits.PutLink key from to place

-- the kind of edits that has these fields
abbrev pub kind_of : Fields → Kind
kind_of (fields.AddBundle annot) = kinds.AddBundle
kind_of fields.DropBundle = kinds.DropBundle
kind_of (fields.AddItem level position item) = kinds.AddItem
kind_of (fields.RemoveItem id) = kinds.RemoveItem
kind_of (fields.SetLabel id attribute label) = kinds.SetLabel
kind_of (fields.SetSegment id start dur) = kinds.SetSegment
kind_of (fields.MoveBoundary id start) = kinds.MoveBoundary
kind_of (fields.SetPoint id at) = kinds.SetPoint
kind_of (fields.Split id new_id start) = kinds.Split
kind_of (fields.Merge id) = kinds.Merge
kind_of (fields.AddLink from to) = kinds.AddLink
kind_of (fields.RemoveLink from to) = kinds.RemoveLink
kind_of (fields.LinkTimes upper lower) = kinds.LinkTimes
kind_of (fields.PutItem level position item) = kinds.PutItem
kind_of (fields.PutLabel id attribute label) = kinds.PutLabel
kind_of (fields.PutLink from to place) = kinds.PutLink

-- The values of each kind.

abbrev pub add_bundle_of : Fields → Option Annot
add_bundle_of (fields.AddBundle annot) = Some annot
add_bundle_of _ = None

abbrev pub add_item_of : Fields → Option (List ℕ × (Option ℕ × AnnotItem))
add_item_of (fields.AddItem level position item) = Some (level, (position, item))
add_item_of _ = None

abbrev pub remove_item_of : Fields → Option ItemId
remove_item_of (fields.RemoveItem id) = Some id
remove_item_of _ = None

abbrev pub set_label_of : Fields → Option (ItemId × (List ℕ × List ℕ))
set_label_of (fields.SetLabel id attribute label) = Some (id, (attribute, label))
set_label_of _ = None

abbrev pub set_segment_of : Fields → Option (ItemId × (ℕ × ℕ))
set_segment_of (fields.SetSegment id start dur) = Some (id, (start, dur))
set_segment_of _ = None

abbrev pub move_boundary_of : Fields → Option (ItemId × ℕ)
move_boundary_of (fields.MoveBoundary id start) = Some (id, start)
move_boundary_of _ = None

abbrev pub set_point_of : Fields → Option (ItemId × ℕ)
set_point_of (fields.SetPoint id at) = Some (id, at)
set_point_of _ = None

abbrev pub split_of : Fields → Option (ItemId × (ItemId × ℕ))
split_of (fields.Split id new_id start) = Some (id, (new_id, start))
split_of _ = None

abbrev pub merge_of : Fields → Option ItemId
merge_of (fields.Merge id) = Some id
merge_of _ = None

abbrev pub add_link_of : Fields → Option (ItemId × ItemId)
add_link_of (fields.AddLink from to) = Some (from, to)
add_link_of _ = None

abbrev pub remove_link_of : Fields → Option (ItemId × ItemId)
remove_link_of (fields.RemoveLink from to) = Some (from, to)
remove_link_of _ = None

abbrev pub link_times_of : Fields → Option (List ℕ × List ℕ)
link_times_of (fields.LinkTimes upper lower) = Some (upper, lower)
link_times_of _ = None

abbrev pub put_item_of : Fields → Option (List ℕ × (Option ℕ × AnnotItem))
put_item_of (fields.PutItem level position item) = Some (level, (position, item))
put_item_of _ = None

abbrev pub put_label_of : Fields → Option (ItemId × (List ℕ × List ℕ))
put_label_of (fields.PutLabel id attribute label) = Some (id, (attribute, label))
put_label_of _ = None

abbrev pub put_link_of : Fields → Option (ItemId × (ItemId × ℕ))
put_link_of (fields.PutLink from to place) = Some (from, (to, place))
put_link_of _ = None

-- Their forms.

-- a level, perhaps a position, and an item
abbrev pub put_form : Form (List ℕ × (Option ℕ × AnnotItem))
put_form = pair text_form (pair (option_of u32_form) item_form)

-- an item's id, an attribute, and a label
abbrev pub labelled_form : Form (ItemId × (List ℕ × List ℕ))
labelled_form = pair id_form (pair text_form text_form)

-- the fields of a kind of edits
abbrev pub fields_form : Kind → Form Fields
fields_form kinds.AddBundle = imaged annot_form fields.AddBundle add_bundle_of
fields_form kinds.DropBundle = just fields.DropBundle
fields_form kinds.AddItem = imaged put_form (λ p. fields.AddItem p.0 p.1.0 p.1.1) add_item_of
fields_form kinds.RemoveItem = imaged id_form fields.RemoveItem remove_item_of
fields_form kinds.SetLabel = imaged labelled_form (λ p. fields.SetLabel p.0 p.1.0 p.1.1) set_label_of
fields_form kinds.SetSegment =
    imaged (pair id_form (pair u64_form u64_form)) (λ p. fields.SetSegment p.0 p.1.0 p.1.1) set_segment_of
fields_form kinds.MoveBoundary = imaged (pair id_form u64_form) (λ p. fields.MoveBoundary p.0 p.1) move_boundary_of
fields_form kinds.SetPoint = imaged (pair id_form u64_form) (λ p. fields.SetPoint p.0 p.1) set_point_of
fields_form kinds.Split = imaged (pair id_form (pair id_form u64_form)) (λ p. fields.Split p.0 p.1.0 p.1.1) split_of
fields_form kinds.Merge = imaged id_form fields.Merge merge_of
fields_form kinds.AddLink = imaged (pair id_form id_form) (λ p. fields.AddLink p.0 p.1) add_link_of
fields_form kinds.RemoveLink = imaged (pair id_form id_form) (λ p. fields.RemoveLink p.0 p.1) remove_link_of
fields_form kinds.LinkTimes = imaged (pair text_form text_form) (λ p. fields.LinkTimes p.0 p.1) link_times_of
fields_form kinds.PutItem = imaged put_form (λ p. fields.PutItem p.0 p.1.0 p.1.1) put_item_of
fields_form kinds.PutLabel = imaged labelled_form (λ p. fields.PutLabel p.0 p.1.0 p.1.1) put_label_of
fields_form kinds.PutLink = imaged (pair id_form (pair id_form u32_form)) (λ p. fields.PutLink p.0 p.1.0 p.1.1) put_link_of
