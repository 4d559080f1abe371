use Rattle.std.proofs.Common.{◌≡◌, ◌++◌}
use Rattle.std.specs.List.{flat_map, list_any}
use Rattle.version_tree.specs.Version.{bundles_of}
use Rattle.query_workers.specs.Inner.Questions.{rows_for, too_many_for}
use Rattle.query_workers.specs.Inner.Runs.{run_of}
use Rattle.query_workers.proofs.walk.walk.Given as goal

-- the rows so far are behind each other, and no bundle so far has too many tuples
abbrev pub invariant-loop-place : goal.invariant-loop-place
invariant-loop-place g l = record {
  rows : l.list ++ flat_map (λ b. rows_for l.question l.config b) (bundles_of (run_of l.place l.to l.version.bundles))
      ≡ flat_map (λ b. rows_for l.question l.config b) (bundles_of (run_of l.from l.to l.version.bundles));
  few : list_any (λ b. too_many_for l.question l.config b) (bundles_of (run_of l.place l.to l.version.bundles))
      ≡ list_any (λ b. too_many_for l.question l.config b) (bundles_of (run_of l.from l.to l.version.bundles));
}
