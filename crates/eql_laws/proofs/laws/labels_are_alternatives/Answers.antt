use Rattle.eql_laws.proofs.Checkable.{alternatives}
use Rattle.eql_laws.proofs.laws.labels_are_alternatives.Goals as goal

pub returns : goal.returns
returns c = alternatives
