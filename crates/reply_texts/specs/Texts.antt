-- The texts of replies: each is one JSON object (RFC 8259), printed compact with the members in the
-- order of their names' bytes, and a line feed.
use Rattle.std.specs.Prelude.{ℕ, List, Option, Some, None, codes}
use Rattle.serde_json.specs.Data.{Data, string, object, Members, no_members, member}
use Rattle.session_core.specs.segment_list.Texts.{rows_data, whole}
use Rattle.session_core.specs.declared.line.Command.{Command}
use Rattle.session_core.specs.declared.line.Command.TheVariants as commands
use Rattle.session_core.specs.declared.line.Refusal.{Refusal}
use Rattle.session_core.specs.declared.line.Answer.{Answer}
use Rattle.session_core.specs.declared.line.Answer.TheVariants.{Done, Segments, Refused}
use Rattle.session_core.specs.declared.line.Reply.{Reply}
use Rattle.reply_texts.specs.Members.{line_text, object_of}
use Rattle.reply_texts.specs.Refusals.{refusal_members}

-- the name of a command
abbrev pub command_word : Command → List ℕ
command_word commands.Config = codes "config"
command_word commands.AddBundle = codes "add_bundle"
command_word commands.AddTextgrid = codes "add_textgrid"
command_word commands.DropBundle = codes "drop_bundle"
command_word commands.AddItem = codes "add_item"
command_word commands.RemoveItem = codes "remove_item"
command_word commands.SetLabel = codes "set_label"
command_word commands.SetSegment = codes "set_segment"
command_word commands.MoveBoundary = codes "move_boundary"
command_word commands.SetPoint = codes "set_point"
command_word commands.Split = codes "split"
command_word commands.Merge = codes "merge"
command_word commands.AddLink = codes "add_link"
command_word commands.RemoveLink = codes "remove_link"
command_word commands.LinkTimes = codes "link_times"
command_word commands.Edits = codes "edits"
command_word commands.AddLevel = codes "add_level"
command_word commands.AddAttribute = codes "add_attribute"
command_word commands.AddLinkDefinition = codes "add_link_definition"
command_word commands.Undo = codes "undo"
command_word commands.Query = codes "query"
command_word commands.Look = codes "look"
command_word commands.Finish = codes "finish"
command_word commands.After = codes "after"

-- a refusal: its rule, and the id, the name or the counted thing of the rule; where an edit of a list breaks it, also
-- the place of the edit
abbrev pub refusal_data : Refusal → Data
refusal_data refusal = object_of (refusal_members (codes "rule") refusal)

-- a reply: its line, the number of edits where it has one, and the answer

-- what was done, the rows, or the refusal
abbrev pub answer_members : Answer → Members
answer_members (Done command) = member (codes "ok") (string (command_word command)) no_members
answer_members (Segments rows) = member (codes "segments") (rows_data rows) no_members
answer_members (Refused refusal) = member (codes "refused") (refusal_data refusal) no_members

-- the number of edits, where the reply has one, before these members
abbrev pub numbered_members : Option ℕ → Members → Members
numbered_members None rest = rest
numbered_members (Some n) rest = member (codes "n") (whole n) rest

-- the object of a reply
abbrev pub reply_data : Reply → Data
reply_data r = object (member (codes "line") (whole r.line) (numbered_members r.n (answer_members r.answer)))

-- the text of a reply
unfoldable pub reply_text : Reply → List ℕ
reply_text r = line_text (reply_data r)
