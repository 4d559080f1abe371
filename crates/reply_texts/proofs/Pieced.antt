-- The text of a reply as the pieces that are written one behind another.
use Rattle.std.proofs.Common.{◌≡◌, ℕ, List, [], ◌∷◌, ◌++◌, Option, None, Some, true, false, codes, decimal, refl, ap, sym, subst, ◌∙◌, append_assoc, Result, Ok, Err, IfOk}
use Rattle.json.specs.Print.{escape_byte}
use Rattle.emu_names.specs.declared.shortage.Memory.{Memory}
use Rattle.serde_json.specs.Data.{string, no_members, member}
use Rattle.serde_json.specs.Written.{compact_text, members_text}
use Rattle.eql_rows.specs.declared.row.Row.{Row}
use Rattle.session_core.specs.segment_list.Texts.{rows_data}
use Rattle.session_core.specs.segment_list.Inner.Pieces.{row_texts}
use Rattle.session_core.specs.segment_list.Inner.Texts.{rows_text}
use Rattle.session_core.proofs.of_segment_list.Listed.{whole_list}
use Rattle.session_core.specs.declared.line.Command.{Command}
use Rattle.session_core.specs.declared.line.Command.TheVariants as commands
use Rattle.session_core.specs.declared.line.Refusal.{Refusal}
use Rattle.session_core.specs.declared.line.Answer.{Answer}
use Rattle.session_core.specs.declared.line.Answer.TheVariants.{Done, Segments, Refused}
use Rattle.session_core.specs.declared.line.Reply.{Reply}
use Rattle.reply_texts.specs.Inner.Pieces.{answer_piece, done_piece, edits_piece, head_piece, refused_piece}
use Rattle.reply_texts.specs.Inner.Rows.{IsBeforeRows}
use Rattle.reply_texts.specs.Texts.{answer_members, command_word, numbered_members, refusal_data, reply_text}
use Rattle.reply_texts.specs.Members.{line_text}
use Rattle.reply_texts.proofs.Pushed.{three, two}

-- the last member, with the closing brace

done_is : (command : Command) → done_piece command ++ codes "}" ≡ members_text true
    (member (codes "ok") (string (command_word command)) no_members)
unfolding escape_byte
done_is commands.Config = refl
done_is _ = refl

segments_is : (rows : List Row) → (codes ",\"segments\":" ++ rows_text rows) ++ codes "}" ≡ members_text true
    (member (codes "segments") (rows_data rows) no_members)
unfolding rows_text escape_byte
segments_is rows = append_assoc (codes ",\"segments\":") (rows_text rows) (codes "}")

refused_is : (refusal : Refusal) → refused_piece refusal ++ codes "}" ≡ members_text true
    (member (codes "refused") (refusal_data refusal) no_members)
unfolding escape_byte
refused_is refusal = append_assoc (codes ",\"refused\":") (compact_text (refusal_data refusal)) (codes "}")

answer_is : (a : Answer) → answer_piece a ++ codes "}" ≡ members_text true (answer_members a)
answer_is (Done command) = done_is command
answer_is (Segments rows) = segments_is rows
answer_is (Refused refusal) = refused_is refusal

-- the number of edits before it

numbered_flat : (before n rest end : List ℕ) → (before ++ n) ++ (rest ++ end) ≡ before ++ (n ++ (rest ++ end))
numbered_flat before n rest end = append_assoc before n (rest ++ end)

numbered_is : (n : Option ℕ) (a : Answer) → edits_piece n ++ (answer_piece a ++ codes "}") ≡ members_text true
    (numbered_members n (answer_members a))
unfolding escape_byte
numbered_is None a = answer_is a
numbered_is (Some n) a =
    numbered_flat (codes ",\"n\":") (decimal n) (answer_piece a) (codes "}")
    ∙ ap (λ (t : List ℕ). codes ",\"n\":" ++ (decimal n ++ t)) (answer_is a)

-- the whole

flat : (before line edits answer brace feed : List ℕ) → ((before ++ line) ++ edits) ++ (answer ++ (brace ++ feed)) ≡
    (before ++ (line ++ (edits ++ (answer ++ brace)))) ++ feed
flat before line edits answer brace feed = simp append_assoc

in_pieces : (r : Reply) → head_piece r.line r.n ++ (answer_piece r.answer ++ codes "}\n") ≡ reply_text r
unfolding reply_text line_text escape_byte
in_pieces r =
    flat (codes "{\"line\":") (decimal r.line) (edits_piece r.n) (answer_piece r.answer) (codes "}") (10 ∷ [])
    ∙ ap (λ (t : List ℕ). (codes "{\"line\":" ++ (decimal r.line ++ t)) ++ 10 ∷ []) (numbered_is r.n r.answer)

pub written : (r : Reply) (o : List ℕ) {p q u : List ℕ} → o ≡ [] → p ≡ o ++ head_piece r.line r.n
    → q ≡ p ++ answer_piece r.answer → u ≡ q ++ codes "}\n" → u ≡ reply_text r
written r o empty head answer end =
    three o (head_piece r.line r.n) (answer_piece r.answer) (codes "}\n") head answer end
    ∙ ap (λ (x : List ℕ). x ++ (head_piece r.line r.n ++ (answer_piece r.answer ++ codes "}\n"))) empty
    ∙ in_pieces r

-- the rows apart

apart : (head key rows end : List ℕ) → (head ++ (key ++ 91 ∷ [])) ++ (rows ++ 93 ∷ end) ≡ head ++ ((key ++ 91 ∷ (rows ++ 93 ∷ [])) ++ end)
apart head key rows end = simp append_assoc

pub before_rows : (r : Reply) (o : List ℕ) {p q : List ℕ} → o ≡ [] → p ≡ o ++ head_piece r.line r.n
    → q ≡ p ++ codes ",\"segments\":[" → IsBeforeRows q r
before_rows r o empty head opening rows lists =
    ap (λ (t : List ℕ). t ++ (row_texts false rows ++ codes "]}\n"))
    (two o (head_piece r.line r.n) (codes ",\"segments\":[") head opening
    ∙ ap (λ (t : List ℕ). t ++ (head_piece r.line r.n ++ codes ",\"segments\":[")) empty)
    ∙ apart (head_piece r.line r.n) (codes ",\"segments\":") (row_texts false rows) (codes "}\n")
    ∙ ap (λ (t : List ℕ). head_piece r.line r.n ++ ((codes ",\"segments\":" ++ t) ++ codes "}\n")) (whole_list rows)
    ∙ ap (λ (a : Answer). head_piece r.line r.n ++ (answer_piece a ++ codes "}\n")) (sym lists)
    ∙ in_pieces r

-- and so the text that was made
pub made_before : (result : Result (List ℕ) Memory) (whole : List ℕ) (r : Reply) → IfOk result (λ made. made ≡ whole) → IsBeforeRows whole r
    → IfOk result (λ text. IsBeforeRows text r)
made_before (Ok text) whole r is fits = subst (λ (t : List ℕ). IsBeforeRows t r) (sym is) fits
made_before (Err fault) whole r is fits = tt
