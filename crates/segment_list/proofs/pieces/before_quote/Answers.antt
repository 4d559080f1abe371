use Rattle.std.proofs.Common.{[], ◌∷◌, Some, None, sym, ◌∙◌, arith}
use Rattle.std.proofs.lemmas.List.{append_cancel_right}
use Rattle.std.proofs.lemmas.Str.Pattern.{strip_suffix_char}
use Rattle.segment_list.proofs.pieces.before_quote.Goals as goal

pub returns-in-Some : goal.returns-in-Some
returns-in-Some c front is =
    append_cancel_right c.in-Some.front.now front (34 ∷ []) (sym
    (strip_suffix_char 34 c.args.text.now (Some c.in-Some.front) c.in-Some.ensures.cases (omega arith)) ∙ is)

pub returns-in-None : goal.returns-in-None
returns-in-None c front is =
    absurd (strip_suffix_char 34 c.args.text.now None c.in-None.ensures.cases (omega arith) front is)
