use Rattle.script_lines.proofs.Making.{json_stops}
use Rattle.script_lines.proofs.read.json_line.Goals as goal

pub returns-in_err-value : goal.returns-in_err-value
returns-in_err-value g c = json_stops _ _ _ _ _ _ _ c.from_residual.ensures.1 c.in_err-value.ensures.none c.in_err-value.ensures.fault
