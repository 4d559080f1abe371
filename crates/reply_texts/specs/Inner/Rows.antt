-- The text of a reply that lists rows as what stands before them, their texts, and what stands behind them; no promise
-- of the program rests on these words.
use Rattle.std.specs.Prelude.{◌≡◌, ℕ, List, ◌++◌, false, codes}
use Rattle.eql_rows.specs.declared.row.Row.{Row}
use Rattle.session_core.specs.segment_list.Inner.Pieces.{row_texts}
use Rattle.session_core.specs.declared.line.Answer.TheVariants.{Segments}
use Rattle.session_core.specs.declared.line.Reply.{Reply}
use Rattle.reply_texts.specs.Texts.{reply_text}

-- what stands behind the rows
abbrev pub after_rows : List ℕ
after_rows = codes "]}\n"

-- this text, that of the rows and what stands behind them make the text of a reply, where it lists rows
abbrev pub IsBeforeRows : List ℕ → Reply → Type 0
IsBeforeRows text r =
    (rows : List Row) → r.answer ≡ Segments rows → text ++ (row_texts false rows ++ after_rows) ≡ reply_text r
