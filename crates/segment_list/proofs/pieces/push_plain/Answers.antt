use Rattle.std.proofs.Common.{◌++◌, ℕ, List, ap, sym, ◌∙◌, string_bytes}
use Rattle.segment_list.proofs.Plain.{plain_text}
use Rattle.segment_list.proofs.pieces.push_plain.Goals as goal

pub returns : goal.returns
returns c =
    c.in_ok-push_str.ensures.bytes
    ∙ ap (λ (t : List ℕ). string_bytes c.args.out.now ++ t) (sym (plain_text c.args.text.now c.requires))
