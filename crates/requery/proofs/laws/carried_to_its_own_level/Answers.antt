use Rattle.requery.proofs.Checkable.{carried_itself}
use Rattle.requery.proofs.laws.carried_to_its_own_level.Goals as goal

pub returns : goal.returns
returns c = carried_itself
