use Rattle.std.proofs.Common.{◌++◌, ap, ◌∙◌, ℕ, List, string_bytes}
use Rattle.json.specs.Print.{escape}
use Rattle.eql_rows.specs.declared.row.RowNumbers.{RowNumbers}
use Rattle.eql_rows.specs.Inner.Numbers.{numbers_of}
use Rattle.segment_list.specs.Inner.Pieces.{Names, back_text, end_text, head_text, names_of, pieces_text}
use Rattle.segment_list.proofs.Listed.{row_in_pieces}
use Rattle.segment_list.proofs.Pushed.{three}
use Rattle.segment_list.proofs.print.push_row.Goals as goal

pub returns : goal.returns
returns c =
    let row = c.args.row.now in
    let n = c.args.pieces.now in
    let m = c.numbers-numbers.result in
    let labels = c.as_str.result.now in
    three (string_bytes c.args.out.now) (head_text n ++ end_text m) (escape labels) (back_text n m)
    c.in_ok-push_head.ensures c.in_ok-push_within.ensures c.in_ok-push_back.ensures
    ∙ ap (λ (t : List ℕ). string_bytes c.args.out.now ++ t) (
    ap (λ (it : Names). pieces_text it m labels) c.requires
    ∙ ap (λ (it : RowNumbers). pieces_text (names_of row) it labels) c.numbers-numbers.ensures
    ∙ ap (λ (it : List ℕ). pieces_text (names_of row) (numbers_of row) it) c.as_str.ensures
    ∙ row_in_pieces row)
