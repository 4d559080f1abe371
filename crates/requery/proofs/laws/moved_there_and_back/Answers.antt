use Rattle.requery.proofs.Checkable.{there_and_back}
use Rattle.requery.proofs.laws.moved_there_and_back.Goals as goal

pub returns : goal.returns
returns c = there_and_back
