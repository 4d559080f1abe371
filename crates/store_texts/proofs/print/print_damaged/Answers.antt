use Rattle.std.proofs.lemmas.Result.{IfOk-weaker}
use Rattle.store_texts.proofs.Printed.{damaged_line}
use Rattle.store_texts.proofs.print.print_damaged.Goals as goal

pub returns : goal.returns
returns c = IfOk-weaker _ _ _ (λ text is. damaged_line text _ c.args.at c.in_ok-value.ensures is) c.print_value.ensures
