-- The commands by their words.
use Rattle.std.specs.Prelude.{ℕ, List, Option, Some, None, Result, Ok, Err, if◌then◌else◌, codes}
use Rattle.emu_names.specs.Texts.{same_text}
use Rattle.session_core.specs.declared.line.Command.{Command}
use Rattle.session_core.specs.declared.line.Command.TheVariants as commands
use Rattle.script_lines.specs.declared.faults.LineFault.{LineFault}
use Rattle.script_lines.specs.declared.faults.LineFault.TheVariants as faults

-- the command of a word, but for the configuration's and those of questions
abbrev pub command_named : List ℕ → Option Command
command_named word =
    if same_text word (codes "add_bundle") then Some commands.AddBundle
    else if same_text word (codes "add_textgrid") then Some commands.AddTextgrid
    else if same_text word (codes "drop_bundle") then Some commands.DropBundle
    else if same_text word (codes "add_item") then Some commands.AddItem
    else if same_text word (codes "remove_item") then Some commands.RemoveItem
    else if same_text word (codes "set_label") then Some commands.SetLabel
    else if same_text word (codes "set_segment") then Some commands.SetSegment
    else if same_text word (codes "move_boundary") then Some commands.MoveBoundary
    else if same_text word (codes "set_point") then Some commands.SetPoint
    else if same_text word (codes "split") then Some commands.Split
    else if same_text word (codes "merge") then Some commands.Merge
    else if same_text word (codes "add_link") then Some commands.AddLink
    else if same_text word (codes "remove_link") then Some commands.RemoveLink
    else if same_text word (codes "link_times") then Some commands.LinkTimes
    else if same_text word (codes "edits") then Some commands.Edits
    else if same_text word (codes "add_level") then Some commands.AddLevel
    else if same_text word (codes "add_attribute") then Some commands.AddAttribute
    else if same_text word (codes "add_link_definition") then Some commands.AddLinkDefinition
    else if same_text word (codes "undo") then Some commands.Undo
    else if same_text word (codes "finish") then Some commands.Finish
    else if same_text word (codes "after") then Some commands.After
    else None

-- a word that is no command's is at fault
abbrev pub if_command : Option Command → Result Command LineFault
if_command None = Err faults.NoSuchCommand
if_command (Some command) = Ok command
