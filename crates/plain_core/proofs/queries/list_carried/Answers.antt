use Rattle.std.proofs.Common.{◌+◌, drop, subst}
use Rattle.requery.specs.eql_model.Meaning.{has_too_many}
use Rattle.requery.specs.eql_model.Rows.{any_has_too_many}
use Rattle.requery.proofs.of_eql_model.Listed.{from_here, list_more, few_more, refused}
use Rattle.requery.specs.Carried.{carried_rows, carried_list}
use Rattle.plain_core.proofs.queries.list_carried.Goals as goal

pub returns-in-Err : goal.returns-in-Err
returns-in-Err c =
    let bundles = c.args.database.now.bundles in
    let reached = c.args.reached.now in
    rw c.config-config.ensures at
    (refused (drop c.loop-place.place bundles) (drop (c.loop-place.place + 1) bundles) c.at.result.now
    (from_here bundles c.loop-place.place c.at.result.now c.at.ensures) c.in-Err.fault
    (λ b. has_too_many c.config-config.result.now b reached.asked.query) (carried_rows c.config-config.result.now c.at.result.now reached)
    c.loop-place.list c.add_carried.new.list (carried_list c.config-config.result.now bundles reached)
    (any_has_too_many c.config-config.result.now bundles reached.asked) c.loop-place.invariant.few c.in-Err.ensures)

pub loop-place-preserved : goal.loop-place-preserved
loop-place-preserved c =
    let bundles = c.args.database.now.bundles in
    let reached = c.args.reached.now in
    let config = c.config-config.result.now in
    let left = drop c.loop-place.place bundles in
    let others = drop (c.loop-place.place + 1) bundles in
    let split = from_here bundles c.loop-place.place c.at.result.now c.at.ensures in
    record {
      rows = list_more left others c.at.result.now split (λ b. carried_rows config b reached) c.loop-place.list c.add_carried.new.list _
          c.loop-place.invariant.rows c.in-Ok.ensures.0;
      few = few_more left others c.at.result.now split (λ b. has_too_many config b reached.asked.query) _
          c.loop-place.invariant.few c.in-Ok.ensures.1;
    }
