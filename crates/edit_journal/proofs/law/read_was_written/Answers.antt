use Rattle.edit_journal.proofs.Written.{bodies_written}
use Rattle.edit_journal.proofs.law.read_was_written.Goals as goal

pub returns : goal.returns
returns c = bodies_written
