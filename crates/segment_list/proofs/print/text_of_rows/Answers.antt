use Rattle.std.proofs.Common.{◌++◌, ap, ◌∙◌, ℕ, List, true, string_bytes}
use Rattle.emu_names.proofs.Made.{made_same}
use Rattle.segment_list.specs.Inner.Pieces.{row_texts}
use Rattle.segment_list.proofs.print.text_of_rows.Goals as goal

pub returns : goal.returns
returns c =
    made_same c.from_string.result (string_bytes c.push_rows.new.out) _ c.from_string.ensures
    (c.in_ok-push_rows.ensures ∙ ap (λ (t : List ℕ). t ++ row_texts true c.args.rows.now) c.in_ok-out.ensures.bytes)
