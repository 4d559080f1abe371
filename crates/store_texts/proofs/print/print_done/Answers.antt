use Rattle.std.proofs.lemmas.Result.{IfOk-weaker}
use Rattle.store_texts.proofs.Printed.{done_line}
use Rattle.store_texts.proofs.print.print_done.Goals as goal

pub returns : goal.returns
returns c = IfOk-weaker _ _ _ (λ text is. done_line text _ c.args.n c.args.command.now c.in_ok-value.ensures is)
    c.print_value.ensures
