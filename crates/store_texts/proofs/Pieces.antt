-- The line of a segment list, put together from its pieces.
use Rattle.std.proofs.Common.{◌≡◌, ℕ, List, [], ◌∷◌, ◌++◌, codes, decimal, ap, ◌∙◌, append_assoc}
use Rattle.json.specs.Print.{escape_byte}
use Rattle.reply_texts.specs.eql_rows.declared.row.Row.{Row}
use Rattle.segment_list.specs.Inner.Texts.{rows_text}
use Rattle.store_texts.specs.Inner.Head.{head_text}
use Rattle.reply_texts.specs.Members.{line_text}
use Rattle.store_texts.specs.Texts.{segments_text}

flat : (h n s r z f : List ℕ) → (h ++ (n ++ s)) ++ (r ++ (z ++ f)) ≡ (h ++ (n ++ (s ++ (r ++ z)))) ++ f
flat h n s r z f = simp append_assoc

in_pieces : (n : ℕ) (rows : List Row) → head_text n ++ (rows_text rows ++ codes "}\n") ≡ segments_text n rows
unfolding segments_text line_text rows_text escape_byte
in_pieces n rows = flat (codes "{\"n\":") (decimal n) (codes ",\"segments\":") (rows_text rows) (codes "}") (10 ∷ [])

seam : (a b c d : List ℕ) → ((a ++ b) ++ c) ++ d ≡ a ++ (b ++ (c ++ d))
seam a b c d = simp append_assoc

pub written : (n : ℕ) (rows : List Row) (o p q u r : List ℕ) → o ≡ [] → p ≡ o ++ head_text n
    → q ≡ p ++ r → u ≡ q ++ codes "}\n"
    → r ≡ rows_text rows → u ≡ segments_text n rows
written n rows o p q u r empty head rows_behind end printed =
    end
    ∙ ap (λ (x : List ℕ). x ++ codes "}\n") (rows_behind ∙ ap (λ (x : List ℕ). x ++ r) head)
    ∙ seam o (head_text n) r (codes "}\n")
    ∙ ap (λ (x : List ℕ). x ++ (head_text n ++ (r ++ codes "}\n"))) empty
    ∙ ap (λ (x : List ℕ). head_text n ++ (x ++ codes "}\n")) printed
    ∙ in_pieces n rows
