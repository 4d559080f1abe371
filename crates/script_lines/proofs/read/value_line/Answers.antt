use Rattle.std.proofs.Common.{sym}
use Rattle.script_lines.proofs.Making.{value_stops, value_none}
use Rattle.script_lines.proofs.read.value_line.Goals as goal

pub returns-in_err-word : goal.returns-in_err-word
returns-in_err-word g c = value_stops _ _ _ _ _ _ _ c.from_residual.ensures.1 c.in_err-word.ensures

pub returns-in-None : goal.returns-in-None
returns-in-None g c = value_none _ _ _ _ _ _ _ _ c.in_ok-word.ensures (sym c.in-None.ensures) c.eq.ensures c.placed_line.ensures
