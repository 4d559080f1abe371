use Rattle.eql_laws.proofs.Edges.{not_medial}
use Rattle.eql_laws.proofs.laws.edges_are_not_medial.Goals as goal

pub returns : goal.returns
returns c = not_medial
