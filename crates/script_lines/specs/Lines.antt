-- The request that a line of a script stands for, or its first fault.
use Rattle.std.specs.Prelude.{ℕ, Bool, true, false, List, Option, Some, None, Result, Ok, Err, if◌then◌else◌, codes}
use Rattle.std.specs.List.{list_any}
use Rattle.serde_json.specs.Data.{Data}
use Rattle.json_view.specs.declared.wants.Wanted.TheVariants as wanted
use Rattle.json_view.specs.declared.faults.Shape.{Shape}
use Rattle.json_view.specs.Paths.{root_path}
use Rattle.json_view.specs.Seen.{Seen, seen}
use Rattle.json_view.specs.Parts.{member_of}
use Rattle.json_view.specs.Steps.{◌>>=◌}
use Rattle.session_core.specs.declared.line.Ask.{Ask}
use Rattle.session_core.specs.declared.line.Command.{Command}
use Rattle.session_core.specs.declared.line.Command.TheVariants as commands
use Rattle.session_core.specs.declared.line.Request.{Request}
use Rattle.session_core.specs.declared.line.Request.TheVariants as requests
use Rattle.emu_names.specs.declared.limits.TheConstants.{TOP_ID}
use Rattle.emu_names.specs.Texts.{same_text}
use Rattle.config_json.specs.Read.{config_of}
use Rattle.annot_json.specs.Forms.{whole_member}
use Rattle.script_lines.specs.declared.faults.LineFault.{LineFault}
use Rattle.script_lines.specs.declared.faults.LineFault.TheVariants as faults
use Rattle.script_lines.specs.declared.faults.ReadLine.{ReadLine}
use Rattle.script_lines.specs.declared.faults.ReadLine.TheVariants as reads
use Rattle.script_lines.specs.declared.line_set.EarlierLine.{EarlierLine}
use Rattle.script_lines.specs.Earlier.{is_change_of, is_line}
use Rattle.script_lines.specs.Faults.{form, config_form}
use Rattle.script_lines.specs.Forms.{session_at}
use Rattle.script_lines.specs.Acts.{one_request, edits_request, level_request, attribute_request, definition_request}
use Rattle.script_lines.specs.CommandWords.{command_named, if_command}
use Rattle.script_lines.specs.Edits.{bundle_request, textgrid_request, drop_request, times_request}
use Rattle.script_lines.specs.Values.{is_blank, json_of, word_of_line}
use Rattle.script_lines.specs.Questions.{Question, question_at, question_command}
use Rattle.eql_resolve.specs.Made.{Made}

-- The members of commands.

-- `after`: the number of an earlier request line
abbrev pub if_earlier : List EarlierLine → ℕ → Result Request LineFault
if_earlier earlier line = if list_any (is_line line) earlier then Ok (requests.After line) else Err faults.BadAfter

-- the member `line` of an `after`
unfoldable pub after_request : List EarlierLine → Seen → Result Request LineFault
after_request earlier s = form (whole_member (codes "line") TOP_ID s) >>= if_earlier earlier

-- `undo`: the number of an earlier request line of its session that asked for a change
abbrev pub if_change : List EarlierLine → ℕ → ℕ → Result Request LineFault
if_change earlier session line =
    if list_any (is_change_of session line) earlier then Ok (requests.Undo line) else Err faults.BadUndo

-- the member `line` of an `undo`
unfoldable pub undo_request : List EarlierLine → ℕ → Seen → Result Request LineFault
undo_request earlier session s = form (whole_member (codes "line") TOP_ID s) >>= if_change earlier session

-- the members of a request, by its command; a configuration and questions have lines of their own
abbrev pub members_of : Command → List EarlierLine → ℕ → Seen → Result Request LineFault
members_of commands.AddBundle earlier session s = form (bundle_request s)
members_of commands.AddTextgrid earlier session s = form (textgrid_request s)
members_of commands.DropBundle earlier session s = form (drop_request s)
members_of commands.AddItem earlier session s = one_request commands.AddItem s
members_of commands.RemoveItem earlier session s = one_request commands.RemoveItem s
members_of commands.SetLabel earlier session s = one_request commands.SetLabel s
members_of commands.SetSegment earlier session s = one_request commands.SetSegment s
members_of commands.MoveBoundary earlier session s = one_request commands.MoveBoundary s
members_of commands.SetPoint earlier session s = one_request commands.SetPoint s
members_of commands.Split earlier session s = one_request commands.Split s
members_of commands.Merge earlier session s = one_request commands.Merge s
members_of commands.AddLink earlier session s = one_request commands.AddLink s
members_of commands.RemoveLink earlier session s = one_request commands.RemoveLink s
members_of commands.LinkTimes earlier session s = form (times_request s)
members_of commands.Edits earlier session s = edits_request s
members_of commands.AddLevel earlier session s = level_request s
members_of commands.AddAttribute earlier session s = attribute_request s
members_of commands.AddLinkDefinition earlier session s = definition_request s
members_of commands.Query earlier session s = Err faults.NoSuchCommand
members_of commands.Look earlier session s = Err faults.NoSuchCommand
members_of commands.Finish earlier session s = Ok requests.Finish
members_of commands.After earlier session s = after_request earlier s
members_of commands.Undo earlier session s = undo_request earlier session s
members_of commands.Config earlier session s = Err faults.NoSuchCommand

-- a request, once the line's word is known: the command, the session, the members
unfoldable pub line_in : ℕ → List EarlierLine → List ℕ → Seen → Result ReadLine LineFault
line_in number earlier word s = do
  command ← if_command (command_named word)
  session ← form (session_at s)
  request ← members_of command earlier session.0 s
  Ok (reads.Request (record { line = number; session = session; command = command; request = request }))

-- the line of the configuration
unfoldable pub config_line : Seen → Result ReadLine LineFault
config_line s = do
  member ← form (member_of (codes "config") wanted.Object s)
  config ← config_form (config_of member)
  Ok (reads.Config config)

-- the configuration stands where it is wanted, and nowhere else
abbrev pub placed_line : Bool → Bool → ℕ → List EarlierLine → List ℕ → Seen → Result ReadLine LineFault
placed_line true true number earlier word s = config_line s
placed_line true false number earlier word s = Err faults.ConfigPlace
placed_line false true number earlier word s = Err faults.ConfigPlace
placed_line false false number earlier word s = line_in number earlier word s

-- what a question asks for
abbrev pub question_request : Command → Ask → Request
question_request commands.Look ask = requests.Look ask
question_request command ask = requests.Query ask

-- the line of a question, with what was made of its query
abbrev pub question_line : ℕ → Command → Made → Question → ReadLine
question_line number command made q = reads.Request (record {
  line = number;
  session = q.session;
  command = command;
  request = question_request command (record { prepared = made; time = q.time; requery = q.requery });
})

-- a question, where the configuration does not have to stand
abbrev pub asking_line : Bool → ℕ → Command → Made → Result Question Shape → Result ReadLine LineFault
asking_line true number command made question = Err faults.ConfigPlace
asking_line false number command made question =
    form question >>= λ q. Ok (question_line number command made q)

-- a question, or a line that asks the maker of patterns for nothing
abbrev pub told_line : Option Command → ℕ → Bool → List EarlierLine → Made → List ℕ → Seen → Result ReadLine LineFault
told_line (Some command) number wants earlier made word s = asking_line wants number command made (question_at s)
told_line None number wants earlier made word s =
    placed_line wants (same_text word (codes "config")) number earlier word s

-- the request of a JSON value
unfoldable pub value_line : ℕ → Bool → List EarlierLine → Made → Seen → Result ReadLine LineFault
value_line number wants earlier made s =
    form (word_of_line s) >>= λ word. told_line (question_command word) number wants earlier made word s

-- the request of a line that is JSON, or none
abbrev pub json_line : ℕ → Bool → List EarlierLine → Made → Option Data → Result ReadLine LineFault
json_line number wants earlier made None = Err faults.NotJson
json_line number wants earlier made (Some d) = value_line number wants earlier made (seen d root_path)

-- white space alone is no line of the script, but where the configuration is wanted
abbrev pub blank_line : Bool → Result ReadLine LineFault
blank_line true = Err faults.ConfigPlace
blank_line false = Ok reads.Blank

-- the request of a line, or its first fault: `number` is the line's, `wants` says that the
-- configuration has to stand here, `earlier` are the request lines before it, `made` is
-- what the maker of patterns made of the query that the line asks
unfoldable pub request_of : List ℕ → ℕ → Bool → List EarlierLine → Made → Result ReadLine LineFault
request_of line number wants earlier made =
    if is_blank line then blank_line wants else json_line number wants earlier made (json_of line)
