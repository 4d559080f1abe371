use Rattle.std.proofs.Common.{rules, ◌≡◌, ◌++◌, ◌∷◌, [], ℕ, List, ap, ◌∙◌, string_bytes}
use Rattle.json.specs.Print.{escape, quoted}
use Rattle.segment_list.proofs.pieces.push_escaped.Goals as goal

pub returns : goal.returns
returns c =
    let text = c.args.text.now in
    let whole : c.as_str.result.now ≡ quoted text = search rules in
    let rest = c.behind_quote.ensures (escape text ++ 34 ∷ []) whole in
    c.in_ok-push_str.ensures.bytes
    ∙ ap (λ (t : List ℕ). string_bytes c.args.out.now ++ t) (c.before_quote-within.ensures (escape text) rest)
