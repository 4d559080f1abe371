-- What a live run writes, and the status that goes with it.
use Rattle.std.specs.Prelude.{ℕ, Bool, true, false, List, [], ◌++◌, flat_map}
use Rattle.program_output.specs.reply_texts.Texts.{reply_text}
use Rattle.live_run.specs.Marks.{Mark}
use Rattle.live_run.specs.declared.run.Ended.{Ended as LiveEnded}
use Rattle.program_output.specs.Texts.{from_text, mark_text}
use Rattle.program_output.specs.Texts.{config_reply}

-- the reply of the configuration, where the script gives one
abbrev pub given_text : Bool → List ℕ
given_text true = reply_text config_reply
given_text false = []

-- the line of a new entry
abbrev pub text_of_mark : Mark → List ℕ
text_of_mark mark = mark_text mark.at mark.line mark.session.0

-- how many entries stood before a live run, and a line for each new entry, in the order of the history
abbrev pub entries_text : LiveEnded → List ℕ
entries_text ended = from_text ended.from ++ flat_map text_of_mark ended.marks

-- the replies, session by session, and then that
abbrev pub ended_text : LiveEnded → List ℕ
ended_text ended = flat_map reply_text ended.replies ++ entries_text ended

-- what a live run writes: the reply of the configuration, where the script gives one, and then what it was answered
abbrev pub live_text : Bool → LiveEnded → List ℕ
live_text given ended = given_text given ++ ended_text ended
