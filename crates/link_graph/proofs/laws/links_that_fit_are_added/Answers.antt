use Rattle.link_graph.proofs.Kept.{free_added}
use Rattle.link_graph.proofs.laws.links_that_fit_are_added.Goals as goal

pub returns : goal.returns
returns c = free_added
