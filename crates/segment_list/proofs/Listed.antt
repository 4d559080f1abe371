-- The text of rows as the pieces that are written one behind another.
use Rattle.std.proofs.Common.{◌≡◌, ◌<◌, ◌≤◌, ◌+◌, ℕ, suc, List, [], ◌∷◌, ◌++◌, Bool, true, false, codes, decimal, drop, get_or, length, map, refl, ap, sym, ◌∙◌, append_assoc, add-one}
use Rattle.std.proofs.Math.ListN.{drop_of_length-le}
use Rattle.std.proofs.Math.Seq.{drop-cons}
use Rattle.std.proofs.lemmas.List.{append-nil}
use Rattle.json.specs.Print.{escape, escape_byte, quoted}
use Rattle.serde_json.specs.Written.{comma_if, items_text}
use Rattle.eql_rows.specs.declared.row.Row.{Row}
use Rattle.eql_rows.specs.declared.span.Span.{Span}
use Rattle.segment_list.specs.Texts.{rows_items}
use Rattle.segment_list.specs.Inner.Texts.{rows_text}
use Rattle.eql_rows.specs.Inner.Numbers.{numbers_of}
use Rattle.segment_list.specs.Inner.Pieces.{back_text, end_text, head_text, level_text, names_of, number_or_null, pieces_text, row_text, row_texts, samples_text, session_text, start_text}

-- ---- a row

-- the text of a row, behind a comma, to its bundle and before another text, and so the other parts
abbrev bundle_onto : Row → List ℕ → List ℕ
bundle_onto r rest = codes ",{\"attribute\":" ++ (quoted r.attribute ++ (codes ",\"bundle\":" ++ rest))

abbrev labels_onto : Row → List ℕ → List ℕ
labels_onto r rest =
    codes ",\"end\":" ++ (number_or_null r.end ++ (codes ",\"endItem\":" ++ (decimal r.end_item.0
    ++ (codes ",\"endPos\":" ++ (decimal r.end_pos ++ (codes ",\"labels\":" ++ rest))))))

abbrev samples_onto : Row → List ℕ → List ℕ
samples_onto r rest =
    codes ",\"level\":" ++ (quoted r.level ++ (codes ",\"sampleEnd\":" ++ (number_or_null r.sample_end
    ++ (codes ",\"sampleRate\":" ++ (decimal r.rate ++ (codes ",\"sampleStart\":" ++ (number_or_null r.sample_start
    ++ rest)))))))

abbrev back_onto : Row → List ℕ
back_onto r =
    codes ",\"session\":" ++ (quoted r.session ++ (codes ",\"start\":" ++ (number_or_null r.start
    ++ (codes ",\"startItem\":" ++ (decimal r.start_item.0 ++ (codes ",\"startPos\":" ++ (decimal r.start_pos
    ++ codes "}")))))))

-- a text between the quotes that end and begin other pieces
abbrev between : List ℕ → List ℕ → List ℕ
between text rest = 34 ∷ (escape text ++ (34 ∷ rest))

is_between : (text rest : List ℕ) → between text rest ≡ quoted text ++ rest
is_between text rest = ap (λ (t : List ℕ). 34 ∷ t) (sym (append_assoc (escape text) (34 ∷ []) rest))

front_flat : (h a i b j e k d l f m g rest : List ℕ) →
    (((h ++ (a ++ i)) ++ (b ++ j)) ++ (e ++ (k ++ (d ++ (l ++ (f ++ m)))))) ++ (g ++ rest)
    ≡ h ++ (a ++ (i ++ (b ++ (j ++ (e ++ (k ++ (d ++ (l ++ (f ++ (m ++ (g ++ rest)))))))))))
front_flat h a i b j e k d l f m g rest = simp append_assoc

samples_flat : (h a i e k d l f rest : List ℕ) →
    (h ++ (a ++ i)) ++ ((e ++ (k ++ (d ++ (l ++ f)))) ++ rest)
    ≡ h ++ (a ++ (i ++ (e ++ (k ++ (d ++ (l ++ (f ++ rest)))))))
samples_flat h a i e k d l f rest = simp append_assoc

back_flat : (h a i e k d l f z : List ℕ) →
    (h ++ (a ++ i)) ++ (e ++ (k ++ (d ++ (l ++ (f ++ z))))) ≡ h ++ (a ++ (i ++ (e ++ (k ++ (d ++ (l ++ (f ++ z)))))))
back_flat h a i e k d l f z = simp append_assoc

front_is : (r : Row) (rest : List ℕ) →
    (head_text (names_of r) ++ end_text (numbers_of r)) ++ (escape r.labels ++ (34 ∷ rest))
    ≡ bundle_onto r (between r.bundle (labels_onto r (between r.labels rest)))
front_is r rest =
    front_flat (codes ",{\"attribute\":") (quoted r.attribute) (codes ",\"bundle\":\"") (escape r.bundle)
    (codes "\",\"end\":") (number_or_null r.end)
    (codes ",\"endItem\":") (decimal r.end_item.0) (codes ",\"endPos\":") (decimal r.end_pos)
    (codes ",\"labels\":\"") (escape r.labels) (34 ∷ rest)

samples_is : (r : Row) (rest : List ℕ) →
    level_text (names_of r) ++ (samples_text (numbers_of r) ++ rest) ≡ 34 ∷ samples_onto r rest
samples_is r rest =
    samples_flat (codes "\",\"level\":") (quoted r.level) (codes ",\"sampleEnd\":") (number_or_null r.sample_end)
    (codes ",\"sampleRate\":") (decimal r.rate)
    (codes ",\"sampleStart\":") (number_or_null r.sample_start) rest

back_is : (r : Row) → session_text (names_of r) ++ start_text (numbers_of r) ≡ back_onto r
back_is r =
    back_flat (codes ",\"session\":") (quoted r.session) (codes ",\"start\":") (number_or_null r.start)
    (codes ",\"startItem\":") (decimal r.start_item.0)
    (codes ",\"startPos\":") (decimal r.start_pos) (codes "}")

whole_is : (r : Row) → bundle_onto r (quoted r.bundle ++ labels_onto r (quoted r.labels ++ samples_onto r (back_onto r)))
    ≡ codes "," ++ row_text r
unfolding row_text escape_byte
whole_is r = refl

-- the pieces of a row are its text behind a comma
pub row_in_pieces : (r : Row) → pieces_text (names_of r) (numbers_of r) r.labels ≡ codes "," ++ row_text r
row_in_pieces r =
    let back = samples_onto r (back_onto r) in
    ap (λ (t : List ℕ). (head_text (names_of r) ++ end_text (numbers_of r)) ++ (escape r.labels ++ t))
    (samples_is r (session_text (names_of r) ++ start_text (numbers_of r))
    ∙ ap (λ (t : List ℕ). 34 ∷ samples_onto r t) (back_is r))
    ∙ front_is r back
    ∙ ap (λ (t : List ℕ). bundle_onto r t) (is_between r.bundle (labels_onto r (between r.labels back)))
    ∙ ap (λ (t : List ℕ). bundle_onto r (quoted r.bundle ++ labels_onto r t)) (is_between r.labels back)
    ∙ whole_is r

-- ---- rows

step : (c row rest end : List ℕ) → c ++ (row ++ (rest ++ end)) ≡ (c ++ (row ++ rest)) ++ end
step c row rest end = simp append_assoc

-- the rows as elements, and the closing bracket
elements : (later : Bool) (rows : List Row) → items_text later (rows_items rows) ≡ row_texts later rows ++ 93 ∷ []
unfolding row_text
elements later [] = refl
elements later (r ∷ rows) =
    ap (λ (t : List ℕ). comma_if later ++ (row_text r ++ t)) (elements true rows)
    ∙ step (comma_if later) (row_text r) (row_texts true rows) (93 ∷ [])

-- the brackets and the rows between them
pub whole_list : (rows : List Row) → 91 ∷ (row_texts false rows ++ 93 ∷ []) ≡ rows_text rows
unfolding rows_text
whole_list rows = ap (λ (text : List ℕ). 91 ∷ text) (sym (elements false rows))

-- ---- a loop over rows

first_left : (rows : List Row) (place : ℕ) (row : Row) → place < length rows → row ≡ get_or rows place row →
    drop place rows ≡ row ∷ drop (place + 1) rows
first_left rows place row lt at = rw (add-one place) (drop-cons rows place row lt ∙ ap (λ (x : Row). x ∷ drop
    (suc place) rows) (sym at))

seam : (o c r rest : List ℕ) → (o ++ (c ++ r)) ++ rest ≡ o ++ (c ++ (r ++ rest))
seam o c r rest = simp append_assoc

pub next_row : (out out' whole : List ℕ) (rows : List Row) (place : ℕ) (row : Row) → place < length rows →
    row ≡ get_or rows place row → out' ≡ out ++ (codes "," ++ row_text row) →
    out ++ row_texts true (drop place rows) ≡ whole → out' ++ row_texts true (drop (place + 1) rows) ≡ whole
next_row out out' whole rows place row lt at e before =
    ap (λ (t : List ℕ). t ++ row_texts true (drop (place + 1) rows)) e
    ∙ seam out (codes ",") (row_text row) (row_texts true (drop (place + 1) rows))
    ∙ ap (λ (rs : List Row). out ++ row_texts true rs) (sym (first_left rows place row lt at))
    ∙ before

pub no_more : (out whole : List ℕ) (rows : List Row) (place : ℕ) (later : Bool) → length rows ≤ place →
    out ++ row_texts later (drop place rows) ≡ whole → out ≡ whole
no_more out whole rows place later past before =
    sym (append-nil out) ∙ ap (λ (rs : List Row). out ++ row_texts later rs) (sym (drop_of_length-le rows past))
    ∙ before

-- ---- a loop over results

next_left : (spans : List Span) (place : ℕ) (d : Span) → place < length spans →
    drop place spans ≡ get_or spans place d ∷ drop (place + 1) spans
next_left spans place d lt = rw (add-one place) (drop-cons spans place d lt)

pub next_result : (row : Span → Row) (out out' whole : List ℕ) (spans : List Span) (place : ℕ) (d : Span) →
    place < length spans → out' ≡ out ++ (codes "," ++ row_text (row (get_or spans place d))) →
    out ++ row_texts true (map row (drop place spans)) ≡ whole →
    out' ++ row_texts true (map row (drop (place + 1) spans)) ≡ whole
next_result row out out' whole spans place d lt e before =
    let rest = map row (drop (place + 1) spans) in
    ap (λ (t : List ℕ). t ++ row_texts true rest) e
    ∙ seam out (codes ",") (row_text (row (get_or spans place d))) (row_texts true rest)
    ∙ ap (λ (ss : List Span). out ++ row_texts true (map row ss)) (sym (next_left spans place d lt))
    ∙ before

pub results_done : (row : Span → Row) (out whole : List ℕ) (spans : List Span) (place : ℕ) → length spans ≤ place →
    out ++ row_texts true (map row (drop place spans)) ≡ whole → out ≡ whole
results_done row out whole spans place past before =
    sym (append-nil out) ∙ ap (λ (ss : List Span). out ++ row_texts true (map row ss)) (sym
    (drop_of_length-le spans past))
    ∙ before
