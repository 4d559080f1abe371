-- The laws of the fields of edits.
use Rattle.std.proofs.Common.{◌≡◌, ℕ, true, ◌∙◌, List, refl, sym, ap}
use Rattle.std.specs.Prelude.{Option, Some, None, Result, Ok, Err}
use Rattle.emu_names.specs.declared.names.BundleKey.{BundleKey}
use Rattle.bundle_edits.specs.declared.edit.Edit.{Edit}
use Rattle.bundle_edits.specs.declared.edit.Edit.TheVariants as edits
use Rattle.bundle_edits.specs.Edits.{key_of}
use Rattle.edit_rules.specs.Inner.Acts.{is_inner}
use Rattle.byte_forms.specs.Forms.{Form, ◌>>=◌, IsForm}
use Rattle.byte_forms.specs.Parts.{pair, imaged, just, option_of, u32_form, u64_form, read_as}
use Rattle.byte_forms.specs.Utf8.{text_form}
use Rattle.byte_forms.proofs.Laws.{just_law, imaged_law, pair_law}
use Rattle.byte_forms.proofs.Numbers.{u32_law, u64_law}
use Rattle.byte_forms.proofs.Lists.{option_law}
use Rattle.byte_forms.proofs.TextLaws.{text_law}
use Rattle.value_codes.specs.Annots.{annot_form, id_form, item_form}
use Rattle.value_codes.proofs.AnnotLaws.{annot_law, id_law, item_law, made_is}
use Rattle.edit_code.specs.declared.fields.Fields.{Fields}
use Rattle.edit_code.specs.declared.fields.Fields.TheVariants as fields
use Rattle.edit_code.specs.declared.kinds.Kind.{Kind}
use Rattle.edit_code.specs.declared.kinds.Kind.TheVariants as kinds
use Rattle.edit_code.specs.Fields.{fields_of, edit_of, kind_of, put_form, labelled_form, fields_form, add_bundle_of, add_item_of, remove_item_of, set_label_of, set_segment_of, move_boundary_of, set_point_of, split_of, merge_of, add_link_of, remove_link_of, link_times_of, put_item_of, put_label_of, put_link_of}
use Rattle.edit_code.specs.Kinds.{inner_kinds, kind_number}
use Rattle.edit_code.specs.Tags.{kind_at}

two_ids : IsForm (pair id_form id_form)
two_ids = pair_law id_form id_form id_law id_law

two_texts : IsForm (pair text_form text_form)
two_texts = pair_law text_form text_form text_law text_law

id_and_sample : IsForm (pair id_form u64_form)
id_and_sample = pair_law id_form u64_form id_law u64_law

put_fields : IsForm put_form
put_fields =
    pair_law text_form (pair (option_of u32_form) item_form) text_law
    (pair_law (option_of u32_form) item_form (option_law u32_form u32_law) item_law)

label_fields : IsForm labelled_form
label_fields = pair_law id_form (pair text_form text_form) id_law two_texts

segment_fields : IsForm (pair id_form (pair u64_form u64_form))
segment_fields = pair_law id_form (pair u64_form u64_form) id_law (pair_law u64_form u64_form u64_law u64_law)

split_fields : IsForm (pair id_form (pair id_form u64_form))
split_fields = pair_law id_form (pair id_form u64_form) id_law id_and_sample

link_fields : IsForm (pair id_form (pair id_form u32_form))
link_fields = pair_law id_form (pair id_form u32_form) id_law (pair_law id_form u32_form id_law u32_law)

pub fields_law : (k : Kind) → IsForm (fields_form k)
fields_law kinds.AddBundle = imaged_law annot_form fields.AddBundle add_bundle_of annot_law (λ a m. refl)
fields_law kinds.DropBundle = just_law fields.DropBundle
fields_law kinds.AddItem = imaged_law put_form (λ p. fields.AddItem p.0 p.1.0 p.1.1) add_item_of put_fields (λ a m. refl)
fields_law kinds.RemoveItem = imaged_law id_form fields.RemoveItem remove_item_of id_law (λ a m. refl)
fields_law kinds.SetLabel = imaged_law labelled_form (λ p. fields.SetLabel p.0 p.1.0 p.1.1) set_label_of label_fields (λ a m. refl)
fields_law kinds.SetSegment = imaged_law (pair id_form (pair u64_form u64_form)) (λ p. fields.SetSegment p.0 p.1.0 p.1.1) set_segment_of segment_fields (λ a m. refl)
fields_law kinds.MoveBoundary = imaged_law (pair id_form u64_form) (λ p. fields.MoveBoundary p.0 p.1) move_boundary_of id_and_sample (λ a m. refl)
fields_law kinds.SetPoint = imaged_law (pair id_form u64_form) (λ p. fields.SetPoint p.0 p.1) set_point_of id_and_sample (λ a m. refl)
fields_law kinds.Split = imaged_law (pair id_form (pair id_form u64_form)) (λ p. fields.Split p.0 p.1.0 p.1.1) split_of split_fields (λ a m. refl)
fields_law kinds.Merge = imaged_law id_form fields.Merge merge_of id_law (λ a m. refl)
fields_law kinds.AddLink = imaged_law (pair id_form id_form) (λ p. fields.AddLink p.0 p.1) add_link_of two_ids (λ a m. refl)
fields_law kinds.RemoveLink = imaged_law (pair id_form id_form) (λ p. fields.RemoveLink p.0 p.1) remove_link_of two_ids (λ a m. refl)
fields_law kinds.LinkTimes = imaged_law (pair text_form text_form) (λ p. fields.LinkTimes p.0 p.1) link_times_of two_texts (λ a m. refl)
fields_law kinds.PutItem = imaged_law put_form (λ p. fields.PutItem p.0 p.1.0 p.1.1) put_item_of put_fields (λ a m. refl)
fields_law kinds.PutLabel = imaged_law labelled_form (λ p. fields.PutLabel p.0 p.1.0 p.1.1) put_label_of label_fields (λ a m. refl)
fields_law kinds.PutLink = imaged_law (pair id_form (pair id_form u32_form)) (λ p. fields.PutLink p.0 p.1.0 p.1.1) put_link_of link_fields (λ a m. refl)

-- the fields tell their kind
pub fields_are : (k : Kind) (v : Fields) → (fields_form k).fits v → kind_of v ≡ k
unfolding just imaged
fields_are kinds.AddBundle v m = ap kind_of (made_is annot_form fields.AddBundle v (add_bundle_of v) m).1
fields_are kinds.DropBundle v m = ap kind_of m
fields_are kinds.AddItem v m = ap kind_of (made_is put_form (λ p. fields.AddItem p.0 p.1.0 p.1.1) v (add_item_of v) m).1
fields_are kinds.RemoveItem v m = ap kind_of (made_is id_form fields.RemoveItem v (remove_item_of v) m).1
fields_are kinds.SetLabel v m = ap kind_of (made_is labelled_form (λ p. fields.SetLabel p.0 p.1.0 p.1.1) v (set_label_of v) m).1
fields_are kinds.SetSegment v m = ap kind_of (made_is (pair id_form (pair u64_form u64_form)) (λ p. fields.SetSegment p.0 p.1.0 p.1.1) v (set_segment_of v) m).1
fields_are kinds.MoveBoundary v m = ap kind_of (made_is (pair id_form u64_form) (λ p. fields.MoveBoundary p.0 p.1) v (move_boundary_of v) m).1
fields_are kinds.SetPoint v m = ap kind_of (made_is (pair id_form u64_form) (λ p. fields.SetPoint p.0 p.1) v (set_point_of v) m).1
fields_are kinds.Split v m = ap kind_of (made_is (pair id_form (pair id_form u64_form)) (λ p. fields.Split p.0 p.1.0 p.1.1) v (split_of v) m).1
fields_are kinds.Merge v m = ap kind_of (made_is id_form fields.Merge v (merge_of v) m).1
fields_are kinds.AddLink v m = ap kind_of (made_is (pair id_form id_form) (λ p. fields.AddLink p.0 p.1) v (add_link_of v) m).1
fields_are kinds.RemoveLink v m = ap kind_of (made_is (pair id_form id_form) (λ p. fields.RemoveLink p.0 p.1) v (remove_link_of v) m).1
fields_are kinds.LinkTimes v m = ap kind_of (made_is (pair text_form text_form) (λ p. fields.LinkTimes p.0 p.1) v (link_times_of v) m).1
fields_are kinds.PutItem v m = ap kind_of (made_is put_form (λ p. fields.PutItem p.0 p.1.0 p.1.1) v (put_item_of v) m).1
fields_are kinds.PutLabel v m = ap kind_of (made_is labelled_form (λ p. fields.PutLabel p.0 p.1.0 p.1.1) v (put_label_of v) m).1
fields_are kinds.PutLink v m = ap kind_of (made_is (pair id_form (pair id_form u32_form)) (λ p. fields.PutLink p.0 p.1.0 p.1.1) v (put_link_of v) m).1

-- a value that was read as another is made of one
image_is : {A B : Type 0} (of : A → B) (r : Result (A × List ℕ) ℕ) (x : B) (rest : List ℕ) → (r >>= read_as of) ≡ Ok (x, rest)
    → (a : A) × (x ≡ of a)
image_is {B = B} of (Ok y) x rest e =
    let same : (of y.0, y.1) ≡ (x, rest) = cc in
    (y.0, sym (ap (λ (z : B × List ℕ). z.0) same))
image_is of (Err n) x rest e = absurd cc

-- what is read of a kind has that kind
pub kind_read : (k : Kind) (bytes : List ℕ) (v : Fields) (rest : List ℕ) → (fields_form k).read bytes ≡ Ok (v, rest) → kind_of v ≡ k
unfolding just imaged
kind_read kinds.AddBundle bytes v rest e = ap kind_of (image_is fields.AddBundle ((annot_form).read bytes) v rest e).1
kind_read kinds.DropBundle bytes v rest e = let same : (fields.DropBundle, bytes) ≡ (v, rest) = cc in ap (λ (z : Fields × List ℕ). kind_of z.0) (sym same)
kind_read kinds.AddItem bytes v rest e = ap kind_of (image_is (λ p. fields.AddItem p.0 p.1.0 p.1.1) ((put_form).read bytes) v rest e).1
kind_read kinds.RemoveItem bytes v rest e = ap kind_of (image_is fields.RemoveItem ((id_form).read bytes) v rest e).1
kind_read kinds.SetLabel bytes v rest e = ap kind_of (image_is (λ p. fields.SetLabel p.0 p.1.0 p.1.1) ((labelled_form).read bytes) v rest e).1
kind_read kinds.SetSegment bytes v rest e = ap kind_of (image_is (λ p. fields.SetSegment p.0 p.1.0 p.1.1) (((pair id_form (pair u64_form u64_form))).read bytes) v rest e).1
kind_read kinds.MoveBoundary bytes v rest e = ap kind_of (image_is (λ p. fields.MoveBoundary p.0 p.1) (((pair id_form u64_form)).read bytes) v rest e).1
kind_read kinds.SetPoint bytes v rest e = ap kind_of (image_is (λ p. fields.SetPoint p.0 p.1) (((pair id_form u64_form)).read bytes) v rest e).1
kind_read kinds.Split bytes v rest e = ap kind_of (image_is (λ p. fields.Split p.0 p.1.0 p.1.1) (((pair id_form (pair id_form u64_form))).read bytes) v rest e).1
kind_read kinds.Merge bytes v rest e = ap kind_of (image_is fields.Merge ((id_form).read bytes) v rest e).1
kind_read kinds.AddLink bytes v rest e = ap kind_of (image_is (λ p. fields.AddLink p.0 p.1) (((pair id_form id_form)).read bytes) v rest e).1
kind_read kinds.RemoveLink bytes v rest e = ap kind_of (image_is (λ p. fields.RemoveLink p.0 p.1) (((pair id_form id_form)).read bytes) v rest e).1
kind_read kinds.LinkTimes bytes v rest e = ap kind_of (image_is (λ p. fields.LinkTimes p.0 p.1) (((pair text_form text_form)).read bytes) v rest e).1
kind_read kinds.PutItem bytes v rest e = ap kind_of (image_is (λ p. fields.PutItem p.0 p.1.0 p.1.1) ((put_form).read bytes) v rest e).1
kind_read kinds.PutLabel bytes v rest e = ap kind_of (image_is (λ p. fields.PutLabel p.0 p.1.0 p.1.1) ((labelled_form).read bytes) v rest e).1
kind_read kinds.PutLink bytes v rest e = ap kind_of (image_is (λ p. fields.PutLink p.0 p.1.0 p.1.1) (((pair id_form (pair id_form u32_form))).read bytes) v rest e).1

-- An edit is its key and its fields.

pub edit_there : (e : Edit) → edit_of (key_of e) (fields_of e) ≡ e
edit_there (edits.AddBundle key annot) = refl
edit_there (edits.DropBundle key) = refl
edit_there (edits.AddItem key level position item) = refl
edit_there (edits.RemoveItem key id) = refl
edit_there (edits.SetLabel key id attribute label) = refl
edit_there (edits.SetSegment key id start dur) = refl
edit_there (edits.MoveBoundary key id start) = refl
edit_there (edits.SetPoint key id at) = refl
edit_there (edits.Split key id new_id start) = refl
edit_there (edits.Merge key id) = refl
edit_there (edits.AddLink key from to) = refl
edit_there (edits.RemoveLink key from to) = refl
edit_there (edits.LinkTimes key upper lower) = refl
edit_there (edits.PutItem key level position item) = refl
edit_there (edits.PutLabel key id attribute label) = refl
edit_there (edits.PutLink key from to place) = refl

-- a key and fields, together
abbrev pub both : BundleKey → Fields → BundleKey × Fields
both key f = (key, f)

-- the key and the fields of an edit
abbrev pub parts_of : Edit → BundleKey × Fields
parts_of e = (key_of e, fields_of e)

pub parts_here : (key : BundleKey) (f : Fields) → parts_of (edit_of key f) ≡ both key f
parts_here key (fields.AddBundle annot) = refl
parts_here key fields.DropBundle = refl
parts_here key (fields.AddItem level position item) = refl
parts_here key (fields.RemoveItem id) = refl
parts_here key (fields.SetLabel id attribute label) = refl
parts_here key (fields.SetSegment id start dur) = refl
parts_here key (fields.MoveBoundary id start) = refl
parts_here key (fields.SetPoint id at) = refl
parts_here key (fields.Split id new_id start) = refl
parts_here key (fields.Merge id) = refl
parts_here key (fields.AddLink from to) = refl
parts_here key (fields.RemoveLink from to) = refl
parts_here key (fields.LinkTimes upper lower) = refl
parts_here key (fields.PutItem level position item) = refl
parts_here key (fields.PutLabel id attribute label) = refl
parts_here key (fields.PutLink from to place) = refl

pub key_is : (key : BundleKey) (f : Fields) → key_of (edit_of key f) ≡ key
key_is key f = ap (λ (p : BundleKey × Fields). p.0) (parts_here key f)

pub fields_stay : (key : BundleKey) (f : Fields) → fields_of (edit_of key f) ≡ f
fields_stay key f = ap (λ (p : BundleKey × Fields). p.1) (parts_here key f)

-- fields of a kind that may stand beside others are those of such an edit
pub inner_is : (key : BundleKey) (f : Fields) → kind_at inner_kinds kind_number (kind_number (kind_of f)) ≡ Some (kind_of f)
    → is_inner (edit_of key f) ≡ true
inner_is key (fields.AddBundle annot) h = absurd cc
inner_is key fields.DropBundle h = absurd cc
inner_is key (fields.AddItem level position item) h = refl
inner_is key (fields.RemoveItem id) h = refl
inner_is key (fields.SetLabel id attribute label) h = refl
inner_is key (fields.SetSegment id start dur) h = refl
inner_is key (fields.MoveBoundary id start) h = refl
inner_is key (fields.SetPoint id at) h = refl
inner_is key (fields.Split id new_id start) h = refl
inner_is key (fields.Merge id) h = refl
inner_is key (fields.AddLink from to) h = refl
inner_is key (fields.RemoveLink from to) h = refl
inner_is key (fields.LinkTimes upper lower) h = absurd cc
inner_is key (fields.PutItem level position item) h = refl
inner_is key (fields.PutLabel id attribute label) h = refl
inner_is key (fields.PutLink from to place) h = refl
