-- What a run writes beside the replies to its requests.
use Rattle.std.specs.Prelude.{ℕ, List, ◌∷◌, Some, codes}
use Rattle.serde_json.specs.Data.{Data}
use Rattle.script_lines.specs.session_core.declared.line.Command.TheVariants as commands
use Rattle.script_lines.specs.session_core.declared.line.Answer.TheVariants.{Done}
use Rattle.script_lines.specs.session_core.declared.line.Reply.{Reply}
pub use Rattle.store_texts.specs.Texts.{damaged_text, from_text, mark_text}
use Rattle.store_texts.specs.reply_texts.Members.{Named, line_text, object_of}
use Rattle.store_texts.specs.reply_texts.Refusals.{config_members, number_at, plain, shape_members}
use Rattle.script_lines.specs.declared.faults.LineFault.{LineFault}
use Rattle.script_lines.specs.declared.faults.LineFault.TheVariants as faults

-- the reply to the line of the configuration, which is the first
abbrev pub config_reply : Reply
config_reply = record { line = 1; session = record { 0 = 0 }; n = Some 0; answer = Done commands.Config }

-- The last line of a run that ends early, where no line is named: the cause and the status.
abbrev pub last_data : List ℕ → ℕ → Data
last_data cause status = object_of (number_at (codes "status") status ∷ plain (codes "cause") cause)

-- its text
unfoldable pub last_text : List ℕ → ℕ → List ℕ
last_text cause status = line_text (last_data cause status)

-- where the words are no command
abbrev pub usage_text : List ℕ
usage_text = last_text (codes "Usage") 2

-- where a limit is passed
abbrev pub limit_text : List ℕ
limit_text = last_text (codes "Limit") 9

-- The last line of a run that a line at fault ends: the cause, the line and the status 3.

-- what is said of a line's fault; want of memory is none, and has no last line
abbrev pub fault_members : LineFault → List Named
fault_members faults.NotJson = plain (codes "cause") (codes "NotJson")
fault_members (faults.Shape shape) = shape_members (codes "cause") shape
fault_members (faults.Config fault) = config_members (codes "cause") fault
fault_members faults.NoSuchCommand = plain (codes "cause") (codes "NoSuchCommand")
fault_members faults.ConfigPlace = plain (codes "cause") (codes "ConfigPlace")
fault_members faults.BadAfter = plain (codes "cause") (codes "BadAfter")
fault_members faults.BadUndo = plain (codes "cause") (codes "BadUndo")
fault_members faults.Memory = plain (codes "cause") (codes "Memory")

-- the object
abbrev pub fault_data : ℕ → LineFault → Data
fault_data line fault =
    object_of (number_at (codes "line") line ∷ number_at (codes "status") 3 ∷ fault_members fault)

-- its text
unfoldable pub fault_text : ℕ → LineFault → List ℕ
fault_text line fault = line_text (fault_data line fault)
