-- Rows that are taken from the back, one after another.
use Rattle.std.proofs.Common.{◌≡◌, ◌<◌, ◌-◌, ℕ, suc, List, [], ◌∷◌, ◌++◌, Option, Some, length, get_or, take, drop, reverse, slice_get, ap, sym, ◌∙◌, arith, append_assoc}
use Rattle.std.specs.List.{remove}
use Rattle.std.proofs.Math.ListN.{drop_of_length-le}
use Rattle.std.proofs.Math.Seq.{drop-cons}
use Rattle.std.proofs.lemmas.Grind.{flat_map-append}
use Rattle.std.proofs.lemmas.List.{append-nil, reverse-append, take-append-drop}
use Rattle.std.proofs.lemmas.Option.{slice_get_within, unwrap_or-slice_get}
use Rattle.std.specs.Option.{option_to_list, unwrap_or}
use Rattle.eql_rows.specs.declared.row.Row.{Row}
use Rattle.segment_list.specs.declared.parts.Part.{Part}
use Rattle.segment_list.specs.Merged.{rows_in_turn}

-- a list with its last element taken out, turned round
pub last_out : (rows : List Row) (row : Row) → slice_get rows (length rows - 1) ≡ Some row →
    reverse rows ≡ row ∷ reverse (remove rows (length rows - 1))
last_out rows row at =
    let i = length rows - 1 in
    let within : i < length rows = slice_get_within rows i row at in
    let here : get_or rows i row ≡ row = sym (unwrap_or-slice_get rows i row) ∙ ap (λ
    (o : Option Row). unwrap_or o row) at in
    let past : drop (suc i) rows ≡ [] = drop_of_length-le rows {i = suc i} (omega arith) in
    let split : take i rows ++ row ∷ [] ≡ rows =
    ap (λ (x : Row). take i rows ++ x ∷ []) (sym here)
    ∙ ap (λ (end : List Row). take i rows ++ get_or rows i row ∷ end) (sym past)
    ∙ ap (λ (end : List Row). take i rows ++ end) (sym (drop-cons rows i row within))
    ∙ take-append-drop i rows in
    let left : remove rows i ≡ take i rows = ap (λ (end : List Row). take i rows ++ end) past ∙ append-nil
    (take i rows) in
    sym (ap reverse split) ∙ reverse-append (take i rows) (row ∷ []) ∙ ap (λ (x : List Row). row ∷ reverse x)
    (sym left)

-- the last part's rows, turned round, stand before those of the others
pub part_out : (parts left : List Part) (part : Part) → parts ≡ left ++ part ∷ [] →
    reverse (rows_in_turn parts) ≡ reverse part.rows ++ reverse (rows_in_turn left)
part_out parts left part is =
    ap (λ (ps : List Part). reverse (rows_in_turn ps)) is
    ∙ ap reverse (flat_map-append (λ (p : Part). p.rows) left (part ∷ []) ∙ ap (λ (x : List Row). rows_in_turn left
    ++ x) (append-nil part.rows))
    ∙ reverse-append (rows_in_turn left) part.rows

-- ---- loops that take from the back

pub row_out : (out out' whole rows rows' : List Row) (at : ℕ) (row : Row) → at ≡ length rows - 1 →
    slice_get rows at ≡ Some row → rows' ≡ remove rows at → out' ≡ out ++ row ∷ [] → out ++ reverse rows ≡ whole →
    out' ++ reverse rows' ≡ whole
row_out out out' whole rows rows' at row last here left more before =
    let here' : slice_get rows (length rows - 1) ≡ Some row = ap (λ (n : ℕ). slice_get rows n) (sym last) ∙ here in
    let left' : rows' ≡ remove rows (length rows - 1) = left ∙ ap (λ (n : ℕ). remove rows n) last in
    ap (λ (x : List Row). x ++ reverse rows') more
    ∙ append_assoc out (row ∷ []) (reverse rows')
    ∙ ap (λ (x : List Row). out ++ row ∷ reverse x) left'
    ∙ ap (λ (x : List Row). out ++ x) (sym (last_out rows row here'))
    ∙ before

pub part_moved : (rows rows' whole : List Row) (parts left : List Part) (got : Option Part) (part : Part) → got
    ≡ Some part →
    parts ≡ left ++ option_to_list got → rows' ≡ rows ++ reverse part.rows → rows ++ reverse (rows_in_turn parts)
    ≡ whole →
    rows' ++ reverse (rows_in_turn left) ≡ whole
part_moved rows rows' whole parts left got part is split more before =
    let last : parts ≡ left ++ part ∷ [] = split ∙ ap (λ (o : Option Part). left ++ option_to_list o) is in
    ap (λ (x : List Row). x ++ reverse (rows_in_turn left)) more
    ∙ append_assoc rows (reverse part.rows) (reverse (rows_in_turn left))
    ∙ ap (λ (x : List Row). rows ++ x) (sym (part_out parts left part last))
    ∙ before
