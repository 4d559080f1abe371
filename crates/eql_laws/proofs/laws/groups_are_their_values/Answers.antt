use Rattle.eql_laws.proofs.Checkable.{values_of_group}
use Rattle.eql_laws.proofs.laws.groups_are_their_values.Goals as goal

pub returns : goal.returns
returns c = values_of_group
