use Rattle.std.proofs.lemmas.Result.{IfOk-weaker}
use Rattle.program_output.proofs.LineLemmas.{fault_line}
use Rattle.program_output.proofs.lines.print_fault.Goals as goal

pub returns : goal.returns
returns c = IfOk-weaker _ _ _ (λ text is. fault_line text _ c.args.line c.args.fault.now c.in_ok-value.ensures is) c.print_value.ensures
