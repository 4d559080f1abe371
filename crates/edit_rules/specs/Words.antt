-- The word of each act in a history: that of the command that it came from.
use Rattle.std.specs.Prelude.{ℕ, List, [], ◌∷◌, codes}
use Rattle.bundle_edits.specs.declared.edit.Edit.{Edit}
use Rattle.bundle_edits.specs.declared.edit.Edit.TheVariants as edits
use Rattle.edit_rules.specs.declared.acts.Act.{Act}
use Rattle.edit_rules.specs.declared.acts.Act.TheVariants as acts
use Rattle.edit_rules.specs.declared.acts.ConfigEdit.{ConfigEdit}
use Rattle.edit_rules.specs.declared.acts.ConfigEdit.TheVariants as additions

-- the name of an edit; a TextGrid's bundle is stored as the bundle that it makes, and the edits that put something back
-- have no command of their own
abbrev pub edit_word : Edit → List ℕ
edit_word (edits.AddBundle key annot) = codes "add_bundle"
edit_word (edits.DropBundle key) = codes "drop_bundle"
edit_word (edits.AddItem key level position item) = codes "add_item"
edit_word (edits.RemoveItem key id) = codes "remove_item"
edit_word (edits.SetLabel key id attribute label) = codes "set_label"
edit_word (edits.SetSegment key id start dur) = codes "set_segment"
edit_word (edits.MoveBoundary key id start) = codes "move_boundary"
edit_word (edits.SetPoint key id at) = codes "set_point"
edit_word (edits.Split key id new_id start) = codes "split"
edit_word (edits.Merge key id) = codes "merge"
edit_word (edits.AddLink key from to) = codes "add_link"
edit_word (edits.RemoveLink key from to) = codes "remove_link"
edit_word (edits.LinkTimes key upper lower) = codes "link_times"
edit_word (edits.PutItem key level position item) = codes "put_item"
edit_word (edits.PutLabel key id attribute label) = codes "put_label"
edit_word (edits.PutLink key from to place) = codes "put_link"

-- the name of a list of edits: that of an edit alone, also where it came as a list of one
abbrev pub edits_word : List Edit → List ℕ
edits_word (edit ∷ []) = edit_word edit
edits_word es = codes "edits"

-- the name of an addition to the configuration
abbrev pub addition_word : ConfigEdit → List ℕ
addition_word (additions.AddLevel level) = codes "add_level"
addition_word (additions.AddAttribute level attribute) = codes "add_attribute"
addition_word (additions.AddLinkDefinition kind upper lower) = codes "add_link_definition"

-- the name of an act
abbrev pub act_word : Act → List ℕ
act_word (acts.Edits es) = edits_word es
act_word (acts.Config addition) = addition_word addition
