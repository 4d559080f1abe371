use Rattle.bundle_edits.proofs.TimedLinks.{times_link_exactly}
use Rattle.bundle_edits.proofs.laws.times_link_exactly.Goals as goal

pub returns : goal.returns
returns c = times_link_exactly
