use Rattle.std.proofs.lemmas.Result.{IfOk-weaker}
use Rattle.program_output.proofs.LineLemmas.{last_line}
use Rattle.program_output.proofs.lines.print_last.Goals as goal

pub returns : goal.returns
returns c = IfOk-weaker _ _ _ (λ text is. last_line text _ c.args.cause.now c.args.status c.in_ok-value.ensures is) c.print_value.ensures
