use Rattle.eql_laws.proofs.Covered.{first_to_last}
use Rattle.eql_laws.proofs.laws.end_to_end_is_first_to_last.Goals as goal

pub returns : goal.returns
returns c = first_to_last
