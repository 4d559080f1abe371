use Rattle.std.proofs.lemmas.Result.{IfOk-weaker}
use Rattle.store_texts.proofs.Printed.{from_line}
use Rattle.store_texts.proofs.print.print_from.Goals as goal

pub returns : goal.returns
returns c = IfOk-weaker _ _ _ (λ text is. from_line text _ c.args.n c.in_ok-value.ensures is) c.print_value.ensures
