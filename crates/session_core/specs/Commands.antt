-- Which command asks for what.
use Rattle.std.specs.Prelude.{Bool, true, false, List, [], ◌∷◌, Ok, Err}
use Rattle.std.specs.List.{list_all}
use Rattle.bundle_edits.specs.declared.edit.Edit.{Edit}
use Rattle.bundle_edits.specs.declared.edit.Edit.TheVariants as edits
use Rattle.edit_undo.specs.edit_rules.declared.acts.Act.{Act}
use Rattle.edit_undo.specs.edit_rules.declared.acts.Act.TheVariants as acts
use Rattle.edit_undo.specs.edit_rules.declared.acts.ConfigEdit.{ConfigEdit}
use Rattle.edit_undo.specs.edit_rules.declared.acts.ConfigEdit.TheVariants as additions
use Rattle.session_core.specs.declared.line.Command.{Command}
use Rattle.session_core.specs.declared.line.Command.TheVariants as commands
use Rattle.session_core.specs.declared.line.Request.{Request}
use Rattle.session_core.specs.declared.line.Request.TheVariants as requests

-- an edit that a script may put into a list: it has a command of its own, and changes items or links one by one
abbrev pub is_listed : Edit → Bool
is_listed (edits.AddBundle key annot) = false
is_listed (edits.DropBundle key) = false
is_listed (edits.AddItem key level position item) = true
is_listed (edits.RemoveItem key id) = true
is_listed (edits.SetLabel key id attribute label) = true
is_listed (edits.SetSegment key id start dur) = true
is_listed (edits.MoveBoundary key id start) = true
is_listed (edits.SetPoint key id at) = true
is_listed (edits.Split key id new_id start) = true
is_listed (edits.Merge key id) = true
is_listed (edits.AddLink key from to) = true
is_listed (edits.RemoveLink key from to) = true
is_listed (edits.LinkTimes key upper lower) = false
is_listed (edits.PutItem key level position item) = false
is_listed (edits.PutLabel key id attribute label) = false
is_listed (edits.PutLink key from to place) = false

-- whether a command makes this edit alone; a bundle is added with an annotation or with a TextGrid, and the edits
-- that put something back have no command
abbrev pub does_edit : Command → Edit → Bool
does_edit commands.AddBundle (edits.AddBundle key annot) = true
does_edit commands.AddTextgrid (edits.AddBundle key annot) = true
does_edit commands.DropBundle (edits.DropBundle key) = true
does_edit commands.AddItem (edits.AddItem key level position item) = true
does_edit commands.RemoveItem (edits.RemoveItem key id) = true
does_edit commands.SetLabel (edits.SetLabel key id attribute label) = true
does_edit commands.SetSegment (edits.SetSegment key id start dur) = true
does_edit commands.MoveBoundary (edits.MoveBoundary key id start) = true
does_edit commands.SetPoint (edits.SetPoint key id at) = true
does_edit commands.Split (edits.Split key id new_id start) = true
does_edit commands.Merge (edits.Merge key id) = true
does_edit commands.AddLink (edits.AddLink key from to) = true
does_edit commands.RemoveLink (edits.RemoveLink key from to) = true
does_edit commands.LinkTimes (edits.LinkTimes key upper lower) = true
does_edit command edit = false

-- whether a command makes these edits as one act: `edits` a list of them, every other command one alone
abbrev pub does_edits : Command → List Edit → Bool
does_edits commands.Edits es = list_all is_listed es
does_edits command (edit ∷ []) = does_edit command edit
does_edits command es = false

-- whether a command adds this to the configuration
abbrev pub does_addition : Command → ConfigEdit → Bool
does_addition commands.AddLevel (additions.AddLevel level) = true
does_addition commands.AddAttribute (additions.AddAttribute level attribute) = true
does_addition commands.AddLinkDefinition (additions.AddLinkDefinition kind upper lower) = true
does_addition command addition = false

-- whether a command makes an act
abbrev pub does_act : Command → Act → Bool
does_act command (acts.Edits es) = does_edits command es
does_act command (acts.Config addition) = does_addition command addition

-- whether a command may bring the fault of a TextGrid
abbrev pub brings_grid : Command → Bool
brings_grid commands.AddTextgrid = true
brings_grid command = false

-- whether a command asks for a change of the database, which an `undo` may take back
abbrev pub is_change : Command → Bool
is_change commands.Config = false
is_change commands.Query = false
is_change commands.Look = false
is_change commands.Finish = false
is_change commands.After = false
is_change command = true

-- whether a command is one of a request
abbrev pub is_command_of : Command → Request → Bool
is_command_of command (requests.Edit (Ok act)) = does_act command act
is_command_of command (requests.Edit (Err fault)) = brings_grid command
is_command_of commands.Undo (requests.Undo line) = true
is_command_of commands.Query (requests.Query ask) = true
is_command_of commands.Look (requests.Look ask) = true
is_command_of commands.Finish requests.Finish = true
is_command_of commands.After (requests.After line) = true
is_command_of command request = false
