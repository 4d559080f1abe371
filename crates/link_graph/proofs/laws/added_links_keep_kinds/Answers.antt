use Rattle.link_graph.proofs.Kept.{keep_added, keep_other}
use Rattle.link_graph.proofs.laws.added_links_keep_kinds.Goals as goal

pub returns : goal.returns
returns c = record { same = keep_added; others = keep_other }
