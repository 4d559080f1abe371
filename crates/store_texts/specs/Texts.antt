-- The texts of the commands on a store: JSON objects (RFC 8259), each printed compact on a line of its own,
-- with the members in the order of their names' bytes.
use Rattle.std.specs.Prelude.{ℕ, suc, List, [], ◌∷◌, ◌++◌, codes}
use Rattle.serde_json.specs.Data.{Data, string, object, no_members, member}
use Rattle.edit_rules.specs.declared.acts.Entry.{Entry}
use Rattle.edit_rules.specs.Words.{act_word}
use Rattle.reply_texts.specs.eql_rows.declared.row.Row.{Row}
use Rattle.segment_list.specs.Texts.{rows_data, whole}
use Rattle.reply_texts.specs.Members.{line_text}

-- The last line of a store that stands for no history, with the place of the damage and the status 7.
abbrev pub damaged_data : ℕ → Data
damaged_data at = object
    (member (codes "at") (whole at)
    (member (codes "cause") (string (codes "Damaged"))
    (member (codes "status") (whole 7)
    no_members)))

-- its text
unfoldable pub damaged_text : ℕ → List ℕ
damaged_text at = line_text (damaged_data at)

-- The line of a command that has added bundles: how many entries the store has, and the command.
abbrev pub done_data : ℕ → List ℕ → Data
done_data n command = object
    (member (codes "n") (whole n) (member (codes "ok") (string command) no_members))

-- its text
unfoldable pub done_text : ℕ → List ℕ → List ℕ
done_text n command = line_text (done_data n command)

-- The lines that a live run ends with: how many entries stood before it, and each new entry with its place in the
-- history, counted from 1, its line and its session.
abbrev pub from_data : ℕ → Data
from_data n = object (member (codes "from") (whole n) no_members)

-- its text
unfoldable pub from_text : ℕ → List ℕ
from_text n = line_text (from_data n)

-- an entry's place, line and session
abbrev pub mark_data : ℕ → ℕ → ℕ → Data
mark_data at line session = object
    (member (codes "at") (whole at)
    (member (codes "line") (whole line)
    (member (codes "s") (whole session)
    no_members)))

-- its text
unfoldable pub mark_text : ℕ → ℕ → ℕ → List ℕ
mark_text at line session = line_text (mark_data at line session)

-- The history: an entry at its place, which is counted from 1, with the word of its act.
abbrev pub entry_data : ℕ → Entry → Data
entry_data at e = object
    (member (codes "at") (whole at)
    (member (codes "do") (string (act_word e.act))
    (member (codes "line") (whole e.line)
    (member (codes "s") (whole e.session.0)
    no_members))))

-- a line for each entry; the first stands at this place
abbrev pub lines_from : ℕ → List Entry → List ℕ
lines_from at [] = []
lines_from at (e ∷ es) = line_text (entry_data at e) ++ lines_from (suc at) es

-- a line for each entry of a history
unfoldable pub history_text : List Entry → List ℕ
history_text entries = lines_from 1 entries

-- The segment list of a query over a state with this number of edits.
abbrev pub segments_data : ℕ → List Row → Data
segments_data n rows = object
    (member (codes "n") (whole n) (member (codes "segments") (rows_data rows) no_members))

-- its text
unfoldable pub segments_text : ℕ → List Row → List ℕ
segments_text n rows = line_text (segments_data n rows)
