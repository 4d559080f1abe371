use Rattle.eql_laws.proofs.Forward.{lists_forward}
use Rattle.eql_laws.proofs.laws.segment_lists_go_forward.Goals as goal

pub returns : goal.returns
returns c = lists_forward
