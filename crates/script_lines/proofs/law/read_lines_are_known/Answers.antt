use Rattle.script_lines.proofs.KnownLines.{known}
use Rattle.script_lines.proofs.law.read_lines_are_known.Goals as goal

pub returns : goal.returns
returns c = known
