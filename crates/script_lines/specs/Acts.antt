-- The acts that the lines of a script ask for beside edits that stand alone by their form: one edit of a bundle that is
-- there, lists of such edits, and additions to the configuration.
use Rattle.std.specs.Prelude.{ℕ, Bool, ◌&&◌, List, length, Result, Ok, Err, nat_le, if◌then◌else◌, codes}
use Rattle.serde_json.specs.Data.{Data}
use Rattle.json_view.specs.declared.wants.Wanted.TheVariants as wanted
use Rattle.json_view.specs.declared.faults.Shape.{Shape}
use Rattle.json_view.specs.Seen.{Seen}
use Rattle.json_view.specs.Parts.{elements_at, member_of, shape}
use Rattle.json_view.specs.Lists.{each_from}
use Rattle.json_view.specs.Steps.{◌>>=◌}
use Rattle.emu_names.specs.declared.limits.TheConstants.{LIST_EDITS}
use Rattle.emu_names.specs.declared.names.BundleKey.{BundleKey}
use Rattle.config_json.specs.Forms.{or_shape, text_member}
use Rattle.config_json.specs.Read.{attribute_in, level_in, link_in}
use Rattle.bundle_edits.specs.declared.edit.Edit.{Edit}
use Rattle.edit_rules.specs.declared.acts.Act.TheVariants as acts
use Rattle.edit_rules.specs.declared.acts.ConfigEdit.TheVariants as additions
use Rattle.session_core.specs.declared.line.Command.{Command}
use Rattle.session_core.specs.declared.line.Command.TheVariants as commands
use Rattle.session_core.specs.declared.line.Request.{Request}
use Rattle.script_lines.specs.declared.faults.LineFault.{LineFault}
use Rattle.script_lines.specs.declared.faults.LineFault.TheVariants as faults
use Rattle.script_lines.specs.Faults.{form, config_form}
use Rattle.script_lines.specs.Forms.{key_at}
use Rattle.script_lines.specs.Values.{word_of_line}
use Rattle.script_lines.specs.CommandWords.{command_named, if_command}
use Rattle.script_lines.specs.Edits.{asks, alone, item_edit, remove_edit, label_edit, segment_edit, boundary_edit, point_edit, split_edit, merge_edit, link_edit, unlink_edit}

-- the edit of a command, by the key of the bundle and the other members; no other command may stand in a list
abbrev pub edit_of : Command → BundleKey → Seen → Result Edit LineFault
edit_of commands.AddItem key s = form (item_edit key s)
edit_of commands.RemoveItem key s = form (remove_edit key s)
edit_of commands.SetLabel key s = form (label_edit key s)
edit_of commands.SetSegment key s = form (segment_edit key s)
edit_of commands.MoveBoundary key s = form (boundary_edit key s)
edit_of commands.SetPoint key s = form (point_edit key s)
edit_of commands.Split key s = form (split_edit key s)
edit_of commands.Merge key s = form (merge_edit key s)
edit_of commands.AddLink key s = form (link_edit key s)
edit_of commands.RemoveLink key s = form (unlink_edit key s)
edit_of command key s = Err faults.NoSuchCommand

-- one of these edits alone: the key of its bundle, then its other members
unfoldable pub one_request : Command → Seen → Result Request LineFault
one_request command s = do
  key ← form (key_at s)
  edit ← edit_of command key s
  Ok (asks (alone edit))

-- Lists.

-- a list has 1 to 65,536 edits
abbrev pub may_be_listed : ℕ → Bool
may_be_listed count = nat_le 1 count && nat_le count LIST_EDITS

-- a list of no other number of elements
abbrev pub if_listed : Seen → List Data → Result (List Data) Shape
if_listed s list = if may_be_listed (length list) then Ok list else Err (shape s.path wanted.FilledList)

-- the elements of a list of edits; a value that is no list is none such either
unfoldable pub edits_at : Seen → Result (List Data) Shape
edits_at s = or_shape (shape s.path wanted.FilledList) (elements_at s >>= if_listed s)

-- an edit of a list: an object whose `do` is its word, with its members but for the key
unfoldable pub listed_edit : BundleKey → Seen → Result Edit LineFault
listed_edit key s = do
  word ← form (word_of_line s)
  command ← if_command (command_named word)
  edit_of command key s

-- the edits of a list
unfoldable pub listed_edits : BundleKey → Seen → Result (List Edit) LineFault
listed_edits key s = form (edits_at s) >>= λ _. each_from (listed_edit key) 0 s

-- `edits`
unfoldable pub edits_request : Seen → Result Request LineFault
edits_request s = do
  key ← form (key_at s)
  member ← form (member_of (codes "edits") wanted.FilledList s)
  list ← listed_edits key member
  Ok (asks (acts.Edits list))

-- Additions to the configuration.

-- `add_level`
unfoldable pub level_request : Seen → Result Request LineFault
level_request s = do
  member ← form (member_of (codes "level") wanted.Object s)
  level ← config_form (level_in member)
  Ok (asks (acts.Config (additions.AddLevel level)))

-- `add_attribute`
unfoldable pub attribute_request : Seen → Result Request LineFault
attribute_request s = do
  level ← form (text_member (codes "level") s)
  member ← form (member_of (codes "attribute") wanted.Object s)
  attribute ← config_form (attribute_in member)
  Ok (asks (acts.Config (additions.AddAttribute level attribute)))

-- `add_link_definition`
unfoldable pub definition_request : Seen → Result Request LineFault
definition_request s = do
  member ← form (member_of (codes "definition") wanted.Object s)
  link ← config_form (link_in member)
  Ok (asks (acts.Config (additions.AddLinkDefinition link.kind link.upper link.lower)))
