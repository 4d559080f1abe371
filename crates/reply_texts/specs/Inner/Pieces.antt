-- How the program goes about the text of a reply: pieces that follow each other. No public clause names them.
use Rattle.std.specs.Prelude.{ℕ, List, [], ◌++◌, Option, Some, None, codes, decimal}
use Rattle.serde_json.specs.Written.{compact_text}
use Rattle.session_core.specs.segment_list.Inner.Texts.{rows_text}
use Rattle.session_core.specs.declared.line.Command.{Command}
use Rattle.session_core.specs.declared.line.Refusal.{Refusal}
use Rattle.session_core.specs.declared.line.Answer.{Answer}
use Rattle.session_core.specs.declared.line.Answer.TheVariants.{Done, Segments, Refused}
use Rattle.reply_texts.specs.Texts.{command_word, refusal_data}

-- a number behind a text
abbrev pub number_behind : List ℕ → ℕ → List ℕ
number_behind before n = before ++ decimal n

-- the number of edits, where the reply has one
abbrev pub edits_piece : Option ℕ → List ℕ
edits_piece None = []
edits_piece (Some n) = number_behind (codes ",\"n\":") n

-- from the brace to the number of edits
abbrev pub head_piece : ℕ → Option ℕ → List ℕ
head_piece line n = number_behind (codes "{\"line\":") line ++ edits_piece n

-- the command that was done
abbrev pub done_piece : Command → List ℕ
done_piece command = codes ",\"ok\":\"" ++ (command_word command ++ codes "\"")

-- the refusal
abbrev pub refused_piece : Refusal → List ℕ
refused_piece refusal = codes ",\"refused\":" ++ compact_text (refusal_data refusal)

-- what was done, the rows, or the refusal
abbrev pub answer_piece : Answer → List ℕ
answer_piece (Done command) = done_piece command
answer_piece (Segments rows) = codes ",\"segments\":" ++ rows_text rows
answer_piece (Refused refusal) = refused_piece refusal
