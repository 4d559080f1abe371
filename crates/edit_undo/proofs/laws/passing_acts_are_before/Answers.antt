use Rattle.edit_undo.proofs.Passing.{acts_before}
use Rattle.edit_undo.proofs.laws.passing_acts_are_before.Goals as goal

pub returns : goal.returns
returns c = acts_before
