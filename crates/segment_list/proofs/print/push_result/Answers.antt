use Rattle.std.proofs.Common.{◌++◌, ap, ◌∙◌, ℕ, List, option_map, string_bytes}
use Rattle.json.specs.Print.{escape}
use Rattle.eql_rows.specs.declared.row.RowNumbers.{RowNumbers}
use Rattle.eql_model.specs.Rows.{row_of}
use Rattle.segment_list.specs.Inner.Pieces.{Names, back_text, end_text, head_text, names_of, pieces_text}
use Rattle.segment_list.proofs.Listed.{row_in_pieces}
use Rattle.segment_list.proofs.Pushed.{three}
use Rattle.segment_list.proofs.print.push_result.Goals as goal

pub returns : goal.returns
returns c =
    let time = option_map (λ b. b.time) c.args.below.now in
    let row = row_of c.args.config.now c.args.bundle.now time c.args.span in
    let n = c.args.pieces.now in
    let m = c.numbers_below-numbers.result in
    three (string_bytes c.args.out.now) (head_text n ++ end_text m) (escape row.labels) (back_text n m)
    c.in_ok-push_head.ensures c.in_ok-push_labels.ensures c.in_ok-push_back.ensures
    ∙ ap (λ (t : List ℕ). string_bytes c.args.out.now ++ t) (
    ap (λ (it : Names). pieces_text it m row.labels) c.requires.pieces
    ∙ ap (λ (it : RowNumbers). pieces_text (names_of row) it row.labels) c.numbers_below-numbers.ensures
    ∙ row_in_pieces row)
