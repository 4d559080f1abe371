use Rattle.edit_journal.proofs.Walk.{read_back}
use Rattle.edit_journal.proofs.law.written_is_read.Goals as goal

pub returns : goal.returns
returns c = read_back
