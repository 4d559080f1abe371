use Rattle.hier_closure.proofs.Ways.{by_chains}
use Rattle.hier_closure.proofs.laws.dominance_is_by_chains.Goals as goal

pub returns : goal.returns
returns c = by_chains
