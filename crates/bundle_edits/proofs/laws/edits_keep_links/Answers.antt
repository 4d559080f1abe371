use Rattle.bundle_edits.proofs.Traces.{edits_keep_links}
use Rattle.bundle_edits.proofs.laws.edits_keep_links.Goals as goal

pub returns : goal.returns
returns c = edits_keep_links
