use Rattle.eql_laws.proofs.Parts.{selects}
use Rattle.eql_laws.proofs.laws.dominance_selects.Goals as goal

pub returns : goal.returns
returns c = selects
