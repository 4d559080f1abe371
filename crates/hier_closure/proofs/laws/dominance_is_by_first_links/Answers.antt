use Rattle.hier_closure.proofs.Ways.{by_first_links}
use Rattle.hier_closure.proofs.laws.dominance_is_by_first_links.Goals as goal

pub returns : goal.returns
returns c = by_first_links
