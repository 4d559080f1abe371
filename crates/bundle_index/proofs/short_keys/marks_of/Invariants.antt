use Rattle.bundle_index.proofs.ShortLabels.{AreMarkedSoFar}
use Rattle.bundle_index.proofs.short_keys.marks_of.Given as goal

abbrev pub invariant-loop-key : goal.invariant-loop-key
invariant-loop-key l = AreMarkedSoFar l.keys l.marks l.key-index
