use Rattle.std.proofs.Common.{◌++◌, ℕ, List, ap, ◌∙◌, codes, string_bytes}
use Rattle.json.specs.Print.{escape}
use Rattle.segment_list.proofs.Pushed.{three}
use Rattle.segment_list.proofs.names.head_piece.Goals as goal

pub returns : goal.returns
returns c =
    let front = c.args.front.now in
    let bundle = escape c.args.bundle.now in
    three (string_bytes c.clear.new.self) front bundle (codes "\",\"end\":")
    c.in_ok-push_str.ensures.bytes c.in_ok-push_within.ensures c.in_ok-push_str-2.ensures.bytes
    ∙ ap (λ (t : List ℕ). t ++ (front ++ (bundle ++ codes "\",\"end\":"))) c.clear.ensures.bytes
