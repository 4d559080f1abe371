use Rattle.std.proofs.Common.{◌++◌, ap, ◌∙◌, ℕ, List, string_bytes}
use Rattle.emu_names.proofs.Made.{made_same}
use Rattle.segment_list.specs.Inner.Texts.{rows_text}
use Rattle.segment_list.proofs.listing.print_rows.Goals as goal

pub returns : goal.returns
returns c =
    made_same c.from_string.result (string_bytes c.push_text.new.out) _ c.from_string.ensures
    (c.in_ok-push_text.ensures ∙ ap (λ (t : List ℕ). t ++ rows_text c.args.list.now) c.new-out.ensures.bytes)
