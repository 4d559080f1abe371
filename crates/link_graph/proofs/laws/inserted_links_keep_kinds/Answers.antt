use Rattle.link_graph.proofs.Inserted.{keep_inserted, keep_other_inserted, pairs_inserted}
use Rattle.link_graph.proofs.laws.inserted_links_keep_kinds.Goals as goal

pub returns : goal.returns
returns c = record { same = keep_inserted; others = keep_other_inserted; pairs = pairs_inserted }
