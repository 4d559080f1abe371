use Rattle.link_graph.proofs.Kept.{keep_none}
use Rattle.link_graph.proofs.laws.no_links_keep_kinds.Goals as goal

pub returns : goal.returns
returns c = keep_none
