use Rattle.bundle_index.proofs.Asked.{AreChangedSoFar}
use Rattle.bundle_index.proofs.indexed.changed_columns.Given as goal

abbrev pub invariant-loop-level : goal.invariant-loop-level
invariant-loop-level l = AreChangedSoFar l.fn.labels l.labels l.bundle.levels l.level l.all
