use Rattle.std.proofs.Common.{ℕ, List, Some, None, drop, ap, sym, ◌∙◌, arith}
use Rattle.std.proofs.lemmas.Str.Pattern.{strip_prefix_char}
use Rattle.segment_list.proofs.pieces.behind_quote.Goals as goal

pub returns-in-Some : goal.returns-in-Some
returns-in-Some c rest is =
    ap (λ (t : List ℕ). drop 1 t) (sym
    (strip_prefix_char 34 c.args.text.now (Some c.in-Some.rest) c.in-Some.ensures.cases (omega arith)) ∙ is)

pub returns-in-None : goal.returns-in-None
returns-in-None c rest is =
    absurd (strip_prefix_char 34 c.args.text.now None c.in-None.ensures.cases (omega arith) rest is)
