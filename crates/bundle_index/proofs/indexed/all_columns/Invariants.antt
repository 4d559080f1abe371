use Rattle.bundle_index.proofs.Asked.{AreFilled}
use Rattle.bundle_index.proofs.indexed.all_columns.Given as goal

abbrev pub invariant-loop-level : goal.invariant-loop-level
invariant-loop-level l = AreFilled l.labels l.bundle.levels l.level l.all
