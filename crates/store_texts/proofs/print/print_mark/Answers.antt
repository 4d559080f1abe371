use Rattle.std.proofs.lemmas.Result.{IfOk-weaker}
use Rattle.store_texts.proofs.Printed.{mark_line}
use Rattle.store_texts.proofs.print.print_mark.Goals as goal

pub returns : goal.returns
returns c =
    IfOk-weaker _ _ _ (λ text is. mark_line text _ c.args.at c.args.line c.args.session.0 c.in_ok-value.ensures is)
    c.print_value.ensures
