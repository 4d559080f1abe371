use Rattle.eql_laws.proofs.Edges.{no_edge}
use Rattle.eql_laws.proofs.laws.medial_is_no_edge.Goals as goal

pub returns : goal.returns
returns c = no_edge
