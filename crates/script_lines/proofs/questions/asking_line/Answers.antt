use Rattle.script_lines.proofs.Making.{asking_stops}
use Rattle.script_lines.proofs.questions.asking_line.Goals as goal

pub returns-in-Err : goal.returns-in-Err
returns-in-Err g c = asking_stops _ _ _ _ _ _ _ c.misread.ensures c.in-Err.ensures
