-- The questions that the lines of a script ask.
use Rattle.std.specs.Prelude.{ℕ, List, Option, Some, None, Result, Ok, if◌then◌else◌, codes}
use Rattle.json_view.specs.declared.faults.Shape.{Shape}
use Rattle.json_view.specs.Seen.{Seen}
use Rattle.json_view.specs.Parts.{optional_of, text_there}
use Rattle.json_view.specs.Steps.{◌>>=◌}
use Rattle.emu_names.specs.declared.kinds.SessionNo.{SessionNo}
use Rattle.config_json.specs.Forms.{text_member}
use Rattle.emu_names.specs.Texts.{same_text}
use Rattle.session_core.specs.declared.line.Command.{Command}
use Rattle.session_core.specs.declared.line.Command.TheVariants as commands
use Rattle.session_core.specs.requery.declared.target.Requery.{Requery}
use Rattle.script_lines.specs.Forms.{session_at}
use Rattle.script_lines.specs.Requeries.{requery_at}

-- the command of a question's word
abbrev pub question_command : List ℕ → Option Command
question_command word =
    if same_text word (codes "query") then Some commands.Query
    else if same_text word (codes "look") then Some commands.Look
    else None

-- the session that asks, the text of the query, the name of the level of the times where it is given, and
-- where the results are carried, where they are
pub record Question : Type 0 where
  pub session : SessionNo
  pub eql : List ℕ
  pub time : Option (List ℕ)
  pub requery : Option Requery

-- the name of the level of the times, which may be missing
unfoldable pub time_name_at : Seen → Result (Option (List ℕ)) Shape
time_name_at s = optional_of (codes "time") s >>= text_there

-- `query` and `look`
unfoldable pub question_at : Seen → Result Question Shape
question_at s = do
  session ← session_at s
  eql ← text_member (codes "eql") s
  time ← time_name_at s
  requery ← requery_at s
  Ok (record { session = session; eql = eql; time = time; requery = requery })
