use Rattle.undo_laws.proofs.Acts.{acts_taken_back}
use Rattle.undo_laws.proofs.laws.acts_are_taken_back.Goals as goal

pub returns : goal.returns
returns c = acts_taken_back
