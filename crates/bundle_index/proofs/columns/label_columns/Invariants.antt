use Rattle.bundle_index.proofs.Steps.{AreColumnsSoFar}
use Rattle.bundle_index.proofs.columns.label_columns.Given as goal

abbrev pub invariant-loop-attribute : goal.invariant-loop-attribute
invariant-loop-attribute l = AreColumnsSoFar l.fn.labels l.labels l.items l.attribute l.columns
