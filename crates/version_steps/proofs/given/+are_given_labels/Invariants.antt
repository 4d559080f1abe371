use Rattle.std.proofs.Common.{length}
use Rattle.version_steps.proofs.given.+are_given_labels.Given as goal

abbrev pub decreases-are_given_labels : goal.decreases-are_given_labels
decreases-are_given_labels l = length l.defs.now
