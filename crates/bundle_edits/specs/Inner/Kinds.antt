-- Of what kind an edit is.
use Rattle.std.specs.Prelude.{Bool, true, false}
use Rattle.bundle_edits.specs.declared.edit.Edit.{Edit}
use Rattle.bundle_edits.specs.declared.edit.Edit.TheVariants as edits

-- whether an edit puts one item, or takes one out
abbrev pub is_of_item : Edit → Bool
is_of_item (edits.AddBundle key annot) = false
is_of_item (edits.DropBundle key) = false
is_of_item (edits.AddItem key level position item) = true
is_of_item (edits.RemoveItem key id) = true
is_of_item (edits.SetLabel key id attribute label) = false
is_of_item (edits.SetSegment key id start dur) = false
is_of_item (edits.MoveBoundary key id start) = false
is_of_item (edits.SetPoint key id at) = false
is_of_item (edits.Split key id new_id start) = false
is_of_item (edits.Merge key id) = false
is_of_item (edits.AddLink key from to) = false
is_of_item (edits.RemoveLink key from to) = false
is_of_item (edits.LinkTimes key upper lower) = false
is_of_item (edits.PutItem key level position item) = true
is_of_item (edits.PutLabel key id attribute label) = false
is_of_item (edits.PutLink key from to place) = false

-- whether an edit gives an item another label
abbrev pub is_of_label : Edit → Bool
is_of_label (edits.AddBundle key annot) = false
is_of_label (edits.DropBundle key) = false
is_of_label (edits.AddItem key level position item) = false
is_of_label (edits.RemoveItem key id) = false
is_of_label (edits.SetLabel key id attribute label) = true
is_of_label (edits.SetSegment key id start dur) = false
is_of_label (edits.MoveBoundary key id start) = false
is_of_label (edits.SetPoint key id at) = false
is_of_label (edits.Split key id new_id start) = false
is_of_label (edits.Merge key id) = false
is_of_label (edits.AddLink key from to) = false
is_of_label (edits.RemoveLink key from to) = false
is_of_label (edits.LinkTimes key upper lower) = false
is_of_label (edits.PutItem key level position item) = false
is_of_label (edits.PutLabel key id attribute label) = true
is_of_label (edits.PutLink key from to place) = false

-- whether an edit changes the times of segments or of a point
abbrev pub is_of_time : Edit → Bool
is_of_time (edits.AddBundle key annot) = false
is_of_time (edits.DropBundle key) = false
is_of_time (edits.AddItem key level position item) = false
is_of_time (edits.RemoveItem key id) = false
is_of_time (edits.SetLabel key id attribute label) = false
is_of_time (edits.SetSegment key id start dur) = true
is_of_time (edits.MoveBoundary key id start) = true
is_of_time (edits.SetPoint key id at) = true
is_of_time (edits.Split key id new_id start) = true
is_of_time (edits.Merge key id) = true
is_of_time (edits.AddLink key from to) = false
is_of_time (edits.RemoveLink key from to) = false
is_of_time (edits.LinkTimes key upper lower) = false
is_of_time (edits.PutItem key level position item) = false
is_of_time (edits.PutLabel key id attribute label) = false
is_of_time (edits.PutLink key from to place) = false

-- whether an edit puts one link, or takes one out
abbrev pub is_of_link : Edit → Bool
is_of_link (edits.AddBundle key annot) = false
is_of_link (edits.DropBundle key) = false
is_of_link (edits.AddItem key level position item) = false
is_of_link (edits.RemoveItem key id) = false
is_of_link (edits.SetLabel key id attribute label) = false
is_of_link (edits.SetSegment key id start dur) = false
is_of_link (edits.MoveBoundary key id start) = false
is_of_link (edits.SetPoint key id at) = false
is_of_link (edits.Split key id new_id start) = false
is_of_link (edits.Merge key id) = false
is_of_link (edits.AddLink key from to) = true
is_of_link (edits.RemoveLink key from to) = true
is_of_link (edits.LinkTimes key upper lower) = false
is_of_link (edits.PutItem key level position item) = false
is_of_link (edits.PutLabel key id attribute label) = false
is_of_link (edits.PutLink key from to place) = true
