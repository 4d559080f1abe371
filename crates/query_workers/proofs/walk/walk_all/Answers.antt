use Rattle.std.proofs.Common.{ap, subst, List}
use Rattle.bundle_state.specs.Bundle.{BundleParts}
use Rattle.version_tree.specs.Version.{bundles_of}
use Rattle.query_workers.specs.Inner.Runs.{GivesOver}
use Rattle.query_workers.proofs.Runs.{run_all}
use Rattle.query_workers.proofs.walk.walk_all.Goals as goal

pub returns : goal.returns
returns g c =
    let version = c.args.version.now in
    subst (λ (bundles : List BundleParts). GivesOver c.halves.result c.args.question.now version bundles)
    (ap bundles_of (run_all version.bundles c.len-count.result c.len-count.ensures.length)) c.halves.ensures
