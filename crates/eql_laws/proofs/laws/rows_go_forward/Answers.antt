use Rattle.eql_laws.proofs.Forward.{row_forward}
use Rattle.eql_laws.proofs.laws.rows_go_forward.Goals as goal

pub returns : goal.returns
returns c = row_forward
