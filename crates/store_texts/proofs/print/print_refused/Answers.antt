use Rattle.std.proofs.lemmas.Result.{IfOk-weaker}
use Rattle.store_texts.proofs.Printed.{refused_line}
use Rattle.store_texts.proofs.print.print_refused.Goals as goal

pub returns : goal.returns
returns c = IfOk-weaker _ _ _ (λ text is. refused_line text _ c.args.refused.now c.in_ok-value.ensures is) c.print_value.ensures
