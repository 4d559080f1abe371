use Rattle.link_graph.proofs.Kept.{keep_filter}
use Rattle.link_graph.proofs.laws.kept_links_keep_kinds.Goals as goal

pub returns : goal.returns
returns c = keep_filter
