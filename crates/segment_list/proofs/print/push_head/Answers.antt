use Rattle.std.proofs.Common.{◌++◌, ap, ◌∙◌, ℕ, List, string_bytes}
use Rattle.segment_list.specs.Inner.Pieces.{end_text, head_text}
use Rattle.segment_list.proofs.Pushed.{two}
use Rattle.segment_list.proofs.print.push_head.Goals as goal

pub returns : goal.returns
returns c =
    let out = string_bytes c.args.out.now in
    two out (head_text c.args.pieces.now) (end_text c.args.row.now)
    (c.in_ok-push_str.ensures.bytes ∙ ap (λ (t : List ℕ). out ++ t) c.head.ensures)
    (c.in_ok-push_str-2.ensures.bytes ∙ ap (λ (t : List ℕ). string_bytes c.push_str.new.self ++ t)
    (c.as_str.ensures ∙ c.end_numbers.ensures))
