use Rattle.eql_laws.proofs.Edges.{told_below}
use Rattle.eql_laws.proofs.laws.places_are_told_below.Goals as goal

pub returns : goal.returns
returns c = told_below
