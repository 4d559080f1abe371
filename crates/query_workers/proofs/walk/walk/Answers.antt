use Rattle.std.proofs.Common.{◌+◌, ap, rules}
use Rattle.std.specs.List.{flat_map, list_any}
use Rattle.eql_match.proofs.of_eql_model.Listed.{list_more, few_more, refused}
use Rattle.version_tree.specs.Version.{bundles_of}
use Rattle.query_workers.specs.Inner.Questions.{rows_for, too_many_for}
use Rattle.query_workers.specs.Inner.Runs.{run_of}
use Rattle.query_workers.proofs.Runs.{run_from}
use Rattle.query_workers.proofs.walk.walk.Goals as goal

pub returns-in-Err : goal.returns-in-Err
returns-in-Err g c =
    let list = c.args.version.now.bundles in
    let question = c.args.question.now in
    let config = c.config-config.result.now in
    let here = c.at-indexed.result.now in
    rw c.config-config.ensures at
    (refused (bundles_of (run_of c.loop-place.place c.args.to list)) (bundles_of (run_of (c.loop-place.place + 1) c.args.to list)) here.bundle
    (ap bundles_of (run_from list c.loop-place.place c.args.to here c.at-indexed.ensures.bundle (search (rules, c.loop-place-test.true)))) c.in-Err.fault
    (λ b. too_many_for question config b) (rows_for question config here.bundle) c.loop-place.list c.add_rows.new.list
    (flat_map (λ b. rows_for question config b) (bundles_of (run_of c.args.from c.args.to list)))
    (list_any (λ b. too_many_for question config b) (bundles_of (run_of c.args.from c.args.to list)))
    c.loop-place.invariant.few c.in-Err.ensures)

pub loop-place-preserved : goal.loop-place-preserved
loop-place-preserved g c =
    let list = c.args.version.now.bundles in
    let question = c.args.question.now in
    let config = c.config-config.result.now in
    let here = c.at-indexed.result.now in
    let left = bundles_of (run_of c.loop-place.place c.args.to list) in
    let others = bundles_of (run_of (c.loop-place.place + 1) c.args.to list) in
    let split = ap bundles_of (run_from list c.loop-place.place c.args.to here c.at-indexed.ensures.bundle (search (rules, c.loop-place-test.true))) in
    record {
      rows = list_more left others here.bundle split (λ b. rows_for question config b) c.loop-place.list c.add_rows.new.list _
          c.loop-place.invariant.rows c.in-Ok.ensures.0;
      few = few_more left others here.bundle split (λ b. too_many_for question config b) _
          c.loop-place.invariant.few c.in-Ok.ensures.1;
    }
