use Rattle.std.proofs.Common.{Bool, List}
use Rattle.std.specs.List.{flat_map, list_any}
use Rattle.bundle_state.specs.Bundle.{BundleParts}
use Rattle.eql_match.specs.eql_rows.declared.row.Row.{Row}
use Rattle.version_tree.specs.Version.{bundles_of}
use Rattle.query_workers.specs.Inner.Questions.{rows_for, too_many_for}
use Rattle.query_workers.specs.Inner.Runs.{run_of}
use Rattle.query_workers.proofs.walk.walk_with_text.Goals as goal

pub returns : goal.returns
returns g c =
    let version = c.args.version.now in
    let bundles = bundles_of (run_of c.args.from c.args.to version.bundles) in
    let rows : BundleParts → List Row = λ b. rows_for c.args.question.now version.config b in
    let many : BundleParts → Bool = λ b. too_many_for c.args.question.now version.config b in
    c.finished.ensures (flat_map rows bundles) (list_any many bundles) c.walk.ensures
