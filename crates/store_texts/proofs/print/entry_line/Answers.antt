use Rattle.std.proofs.lemmas.Result.{IfOk-weaker}
use Rattle.store_texts.proofs.Printed.{entry_line}
use Rattle.store_texts.proofs.print.entry_line.Goals as goal

pub returns : goal.returns
returns c = IfOk-weaker _ _ _ (λ text is. entry_line text _ c.args.at c.args.entry.now c.in_ok-value.ensures is)
    c.print_value.ensures
