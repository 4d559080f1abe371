-- Which bundle an edit changes.
use Rattle.emu_names.specs.declared.names.BundleKey.{BundleKey}
use Rattle.bundle_edits.specs.declared.edit.Edit.{Edit}
use Rattle.bundle_edits.specs.declared.edit.Edit.TheVariants as edits

-- the session and the name of the bundle that an edit changes
abbrev pub key_of : Edit → BundleKey
key_of (edits.AddBundle key annot) = key
key_of (edits.DropBundle key) = key
key_of (edits.AddItem key level position item) = key
key_of (edits.RemoveItem key id) = key
key_of (edits.SetLabel key id attribute label) = key
key_of (edits.SetSegment key id start dur) = key
key_of (edits.MoveBoundary key id start) = key
key_of (edits.SetPoint key id at) = key
key_of (edits.Split key id new_id start) = key
key_of (edits.Merge key id) = key
key_of (edits.AddLink key from to) = key
key_of (edits.RemoveLink key from to) = key
key_of (edits.LinkTimes key upper lower) = key
key_of (edits.PutItem key level position item) = key
key_of (edits.PutLabel key id attribute label) = key
key_of (edits.PutLink key from to place) = key
