-- Which edits may stand in one list.
use Rattle.std.specs.Prelude.{◌≤◌, Bool, true, false, ◌&&◌, List, [], ◌∷◌, length, IsTrue}
use Rattle.std.specs.List.{list_all}
use Rattle.emu_names.specs.declared.limits.TheConstants.{LIST_EDITS}
use Rattle.emu_names.specs.declared.names.BundleKey.{BundleKey}
use Rattle.bundle_edits.specs.declared.edit.Edit.{Edit}
use Rattle.bundle_edits.specs.declared.edit.Edit.TheVariants as edits
use Rattle.bundle_edits.specs.Edits.{key_of}
use Rattle.edit_rules.specs.Acts.{has_key}

-- an edit that may stand beside others: it neither adds nor drops its bundle, nor links by times
abbrev pub is_inner : Edit → Bool
is_inner (edits.AddBundle key annot) = false
is_inner (edits.DropBundle key) = false
is_inner (edits.AddItem key level position item) = true
is_inner (edits.RemoveItem key id) = true
is_inner (edits.SetLabel key id attribute label) = true
is_inner (edits.SetSegment key id start dur) = true
is_inner (edits.MoveBoundary key id start) = true
is_inner (edits.SetPoint key id at) = true
is_inner (edits.Split key id new_id start) = true
is_inner (edits.Merge key id) = true
is_inner (edits.AddLink key from to) = true
is_inner (edits.RemoveLink key from to) = true
is_inner (edits.LinkTimes key upper lower) = false
is_inner (edits.PutItem key level position item) = true
is_inner (edits.PutLabel key id attribute label) = true
is_inner (edits.PutLink key from to place) = true

-- an edit of the bundle of a key that may stand beside others
abbrev pub is_edit_of : BundleKey → Edit → Bool
is_edit_of key edit = is_inner edit && has_key key edit

-- one edit alone, or edits of one bundle that may stand beside others
abbrev pub are_together : List Edit → Bool
are_together [] = false
are_together (e ∷ []) = true
are_together (e ∷ next ∷ es) = list_all (is_edit_of (key_of e)) (e ∷ next ∷ es)

-- what each list of edits keeps
pub record AreTogether (es : List Edit) : Type 0 where
  pub few : length es ≤ LIST_EDITS
  pub together : IsTrue (are_together es)
